-- `decimal::read_number` meets its contract. The loop's invariant: the digits passed are those of `value`, which is not above the largest.
-- Assumes nothing.
use Prim.Native.Nat.{◌+◌}
use native.Mathlib.Omega.{arith}
use mathlib.Core.Path.{subst}
use Rattle.decimal.proofs.Readings.{Passed, passed_first, passed_more, too_large}
use Rattle.decimal.proofs.read_number.Goals as goal

pub loop-next-init : goal.loop-next-init
loop-next-init c = passed_first c.in_ok-value.ensures

pub returns-in_err-checked_mul : goal.returns-in_err-checked_mul
returns-in_err-checked_mul c =
    rw c.from_residual-in_err-checked_mul.ensures
    (too_large c.loop-next.invariant c.in-Some.ensures (omega (arith, c.in_err-checked_mul.ensures)))

pub returns-in_err-value-2 : goal.returns-in_err-value-2
returns-in_err-value-2 c =
    rw c.from_residual-in_err-value-2.ensures
    (too_large c.loop-next.invariant c.in-Some.ensures (omega (arith, c.in_ok-checked_mul.ensures, c.in_err-value-2.ensures)))

pub loop-next-preserved : goal.loop-next-preserved
loop-next-preserved c =
    let ten = c.in_ok-checked_mul.ensures in
    let sum = c.in_ok-value-2.ensures in
    subst (λ v. Passed c.args.text.now c.args.at v (c.loop-next.next + 1)) (omega arith)
    (passed_more c.loop-next.invariant c.in-Some.ensures (omega arith) (omega arith))
