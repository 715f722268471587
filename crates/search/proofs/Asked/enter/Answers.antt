-- `Asked::enter` meets its contract: the search begins at the start of the division sequence. Assumes nothing.
use Rattle.search.proofs.Cells.{begin_divides, begin_seeking}
use Rattle.search.proofs.Asked.enter.Goals as goal

pub seek-requires : goal.seek-requires
seek-requires c = let valid = c.args.self.valid in rw c.first-first.ensures (begin_seeking valid.0 valid.1 c.requires)

pub returns : goal.returns
returns c = c.seek.ensures _ _ (rw c.first-first.ensures (begin_divides c.args.self.run c.args.self.valid.1))
