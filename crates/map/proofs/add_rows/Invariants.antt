-- `map::add_rows` meets its contract. The loop's invariant: the lines before this one are done, and `start` is the source's distance on
-- it. Assumes nothing.
use Rattle.scope.specs.Run.{ceiling}
use Rattle.map.proofs.Rows.{Rows}
use Rattle.map.proofs.add_rows.Given as goal

abbrev pub invariant-loop-line : goal.invariant-loop-line
invariant-loop-line l = Rows ceiling l.weight l.initial.map l.window l.period l.step l.initial.start l.map l.start l.line
