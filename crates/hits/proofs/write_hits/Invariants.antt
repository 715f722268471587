-- `hits::write_hits` meets its contract.
-- The outer loop's invariant: at the head of a line the hits written and those from `cell` on are all from the start on
-- (Head); the inner loop's: the same within the line (Inside). Each is told of every run, source, start and line for which it held
-- where the loop began, since the code does not hold them any more. Until the room is full, there is no `next`.
-- The measure of both: what is left of the run from `cell` on. Assumes nothing.
use Rattle.std.proofs.Common.{◌≡◌, ℕ, ◌-◌, List}
use Rattle.scope.specs.declared.Run.{Run}
use Rattle.scope.specs.declared.Source.{Source}
use Rattle.walk.specs.declared.LineHit.{LineHit}
use Rattle.hits.proofs.Lines.{Fixed, Head, Inside}
use Rattle.hits.proofs.write_hits.Given as goal

abbrev pub invariant-loop-past : goal.invariant-loop-past
invariant-loop-past l = (l.next ≡ l.initial.next) × ((run : Run) (source : Source) (start : ℕ) (before : List ℕ) (at : LineHit) → Fixed run source l.all l.period l.end l.walk → Inside run source start before l.initial.room l.initial.count l.initial.cell l.initial.past at → Inside run source start before l.room l.count l.cell l.past at)

abbrev pub decreases-loop-past : goal.decreases-loop-past
decreases-loop-past l = l.all - l.cell

abbrev pub invariant-lines : goal.invariant-lines
invariant-lines l = (l.next ≡ l.initial.next) × ((run : Run) (source : Source) (start : ℕ) → Fixed run source l.all l.period l.end l.walk → Head run source start l.initial.room l.initial.room l.initial.count l.initial.cell l.initial.offset l.initial.at → Head run source start l.initial.room l.room l.count l.cell l.offset l.at)

abbrev pub decreases-lines : goal.decreases-lines
decreases-lines l = l.all - l.cell
