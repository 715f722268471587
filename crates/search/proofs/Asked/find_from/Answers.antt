-- `Asked::find_from` meets its contract: the point that was sought, as a cell. Assumes nothing.
use Rattle.search.proofs.Cells.{sought_cell, sought_none}
use Rattle.search.proofs.Asked.find_from.Goals as goal

pub returns-in_err-to : goal.returns-in_err-to
returns-in_err-to c = let valid = c.args.self.valid in rw c.from_residual.ensures (sought_none valid.0 valid.1 c.requires c.in_err-to.ensures)

pub returns : goal.returns
returns c = let valid = c.args.self.valid in sought_cell valid.0 valid.1 c.requires c.in_ok-to.ensures
