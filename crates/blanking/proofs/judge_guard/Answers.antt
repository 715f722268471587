-- `blanking::judge_guard` meets its contract: the tests one after the other, on numbers that 64 bits hold. Assumes nothing.
use borrow.Author.Rules.{rules}
use native.Mathlib.Omega.{arith}
use Prim.Native.Nat.{ℕ, ◌/◌}
use mathlib.Core.Path.{◌≡◌}
use lib.IntN.{pos, neg_ℤ, ◌-ℤ◌}
use lib.Signed.{lt_z, le_z}
use mir.Syntax.{w64}
use mir.Val.{SFits}
use mir.Facts.{to_z-of_z}
use Rattle.signed.proofs.Parts.{parts, sum, neg_up, neg_dn}
use Rattle.scope.specs.Refusal.{◌when◌, complaint}
use Rattle.scope.specs.declared.Reason.TheVariants.{Guard}
use Rattle.scope.specs.Inner.{verdict}
use Rattle.scope.proofs.Judged.{first, then, both, fine, blamed}
use Rattle.scope.proofs.Verdicts.{stopped, passed}
use Rattle.blanking.specs.Promise.{guard_tests}
use Rattle.blanking.proofs.judge_guard.Goals as goal
use Rattle.blanking.proofs.judge_guard.Goals.{After-when, After-when-2, After-when-3, Start}

-- half the window turned round
turned : (n : ℕ) → pos 0 -ℤ pos n ≡ neg_ℤ (pos n)
turned n = omega (arith, parts, sum (pos 0) (neg_ℤ (pos n)), neg_up (pos n), neg_dn (pos n))

fits_turned : (c : Start) → SFits w64 (neg_ℤ (pos (c.args.window / 2)))
fits_turned c = let h = pos (c.args.window / 2) in omega (arith, parts, c.ranges.window, neg_up h, neg_dn h)

fits_half : (c : Start) → SFits w64 (pos (c.args.window / 2))
fits_half c = omega (arith, parts, c.ranges.window)

low : (c : Start) → SFits w64 c.args.guard.lowest
low c = search rules

high : (c : Start) → SFits w64 c.args.guard.highest
high c = search rules

-- the three tests
left_judged : (c : After-when) → c.when.result ≡ verdict (complaint (Guard when lt_z c.args.guard.lowest (neg_ℤ (pos (c.args.window / 2)))))
left_judged c =
    let s = (goal.at.After-when c).Start in
    simp (c.from-half.ensures, to_z-of_z (low s), to_z-of_z (fits_half s), turned (c.args.window / 2), to_z-of_z (fits_turned s)) at c.when.ensures

right_judged : (c : After-when-2) → c.when-2.result ≡ verdict (complaint (Guard when le_z (pos (c.args.window / 2)) c.args.guard.highest))
right_judged c =
    let s = (goal.at.After-when-2 c).Start in
    simp (c.from-half.ensures, to_z-of_z (fits_half s), to_z-of_z (high s)) at c.when-2.ensures

upright_judged : (c : After-when-3) → c.when-3.result ≡ verdict (complaint (Guard when lt_z c.args.guard.highest c.args.guard.lowest))
upright_judged c =
    let s = (goal.at.After-when-3 c).Start in
    simp (to_z-of_z (high s), to_z-of_z (low s)) at c.when-3.ensures

pub returns-in_err-when : goal.returns-in_err-when
unfolding guard_tests
returns-in_err-when c = stopped (first (first (blamed (left_judged (goal.at.returns-in_err-when c).After-when) c.in_err-when.was))) c.from_residual.ensures.1

pub returns-in_err-when-2 : goal.returns-in_err-when-2
unfolding guard_tests
returns-in_err-when-2 c =
    let left = fine (left_judged (goal.at.returns-in_err-when-2 c).After-when) c.in_ok-when.was in
    stopped (first (then left (blamed (right_judged (goal.at.returns-in_err-when-2 c).After-when-2) c.in_err-when-2.was))) c.from_residual-in_err-when-2.ensures.1

pub returns : goal.returns
unfolding guard_tests
returns c =
    let left = fine (left_judged (goal.at.returns c).After-when) c.in_ok-when.was in
    let right = fine (right_judged (goal.at.returns c).After-when-2) c.in_ok-when-2.was in
    passed _ (both left right) (upright_judged c)
