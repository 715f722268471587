-- `map::add_leftward` meets its contract. The loop's invariant: the hits from `from` to before `at` are added, from each of them
-- the walk went left, and `at` is the next one if it lies in the run. The measure is what is left of the map. Assumes nothing.
use mathlib.Core.Path.{◌≡◌}
use Prim.Native.Nat.{◌-◌}
use lib.ListN.{length}
use Rattle.scope.specs.declared.Run.{Run}
use Rattle.scope.specs.declared.Source.{Source}
use Rattle.scope.specs.Run.{ceiling, UpTo}
use Rattle.map.specs.Inner.{Crosses}
use Rattle.map.proofs.Walked.{Leftward}
use Rattle.map.proofs.add_leftward.Given as goal

abbrev pub invariant-loop-cell : goal.invariant-loop-cell
invariant-loop-cell l =
    (l.cell ≡ l.at.cell.0) ×
    (length l.map ≡ length l.initial.map) ×
    ((run : Run) (source : Source) → Crosses run source l.walk l.initial.at l.initial.map → UpTo ceiling l.initial.map → Leftward run source l.walk l.weight l.initial.at l.at l.initial.map l.map)

abbrev pub decreases-loop-cell : goal.decreases-loop-cell
decreases-loop-cell l = length l.initial.map - l.cell
