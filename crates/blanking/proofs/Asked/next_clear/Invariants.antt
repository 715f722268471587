-- `blanking::Asked::next_clear` meets its contract. The invariant of its loop: no line before `clear` is as asked. Assumes nothing.
use Rattle.std.proofs.Common.{false}
use Rattle.blanking.specs.Inner.{NoneTill}
use Rattle.blanking.specs.InnerAsking.{Blanks}
use Rattle.blanking.proofs.Asked.next_clear.Given as goal

abbrev pub invariant-loop-clear : goal.invariant-loop-clear
invariant-loop-clear l = NoneTill (Blanks l.self) l.line false l.clear
