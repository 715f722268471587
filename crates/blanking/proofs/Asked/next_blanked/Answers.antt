-- `blanking::Asked::next_blanked` meets its contract: no line is left. Assumes nothing.
use native.Mathlib.Omega.{arith}
use Rattle.blanking.proofs.Asked.next_blanked.Goals as goal

pub returns : goal.returns
returns c = λ j h k b. c.loop-blanked.invariant j h (omega arith) b
