-- `sources::Sources::shortest` meets its contract: the chain gives the periods, one after the other. Assumes nothing.
use mathlib.Core.Path.{sym, ap, ◌∙◌}
use Prim.Native.Nat.{min}
use Rattle.std.specs.List.{reduce}
use Rattle.std.proofs.lemmas.Iterator.Adapters.{option_map_id}
use Rattle.std.proofs.lemmas.Iterator.{YieldsList-from_slice}
use Rattle.std.proofs.lemmas.Iterator.Consumers.{YieldsList-from_copied, min_from_yields_List}
use Rattle.sources.specs.Lists.{periods_of}
use Rattle.sources.proofs.Entries.{periods_of_entries}
use Rattle.sources.proofs.Sources.shortest.Goals as goal

pub returns : goal.returns
returns c =
    let all = min_from_yields_List {v = λ x. x} _ _ c.min.ensures.ran (YieldsList-from_copied (YieldsList-from_slice c.self.inside.periods.now cc)) in
    sym (option_map_id c.min.result) ∙ all ∙ ap (reduce min) (sym (periods_of_entries _ _ _ c.self.invariant) ∙ ap periods_of c.self.view_is)
