-- `map::add_line` meets its contract. The loop's invariant: the cells left of d are done, and d is a hit or lies past the
-- line. The measure is what is left of the line. Assumes nothing.
use Prim.Native.Nat.{◌-◌}
use lib.ListN.{length}
use Rattle.scope.specs.Run.{ceiling}
use Rattle.map.proofs.Rows.{Line}
use Rattle.map.proofs.add_line.Given as goal

abbrev pub invariant-loop-d : goal.invariant-loop-d
invariant-loop-d l = Line ceiling l.period l.start l.weight l.initial.line l.d l.line

abbrev pub decreases-loop-d : goal.decreases-loop-d
decreases-loop-d l = length l.initial.line - l.d
