-- `map::make_map` meets its contract: on a map of the run's length, what the sources make of zeros is the map. Assumes nothing.
use mathlib.Core.Path.{ap, sym, ◌∙◌}
use Rattle.rooms.specs.Lists.{zeros}
use Rattle.scope.specs.Run.{ceiling}
use Rattle.sources.specs.Entry.{entries_of}
use Rattle.map.specs.Promise.{added}
use Rattle.map.proofs.Made.{made_added}
use Rattle.map.proofs.Calls.{passes_whole, new_same}
use Rattle.map.proofs.make_map.Goals as goal

pub returns : goal.returns
returns c =
    let a = c.args in
    let entries = entries_of a.periods.now a.weights.now a.phases.now in
    let cells = passes_whole ceiling a.run a.periods.now a.weights.now a.phases.now a.map.now in
    new_same (λ p. ap (λ n. added ceiling a.run entries (zeros n)) (cells p) ∙ sym (made_added ceiling a.run entries)) c.map_call.ensures
