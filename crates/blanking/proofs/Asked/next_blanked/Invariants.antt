-- `blanking::Asked::next_blanked` meets its contract. The invariant of its loop: no line before `blanked` is as asked. Assumes nothing.
use Rattle.std.proofs.Common.{true}
use Rattle.blanking.specs.Inner.{NoneTill}
use Rattle.blanking.specs.InnerAsking.{Blanks}
use Rattle.blanking.proofs.Asked.next_blanked.Given as goal

abbrev pub invariant-loop-blanked : goal.invariant-loop-blanked
invariant-loop-blanked l = NoneTill (Blanks l.self) l.line true l.blanked
