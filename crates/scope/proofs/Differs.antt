-- The test that two numbers differ, from what is known of the two that the code compared. Assumes nothing.
use Prim.Native.Nat.{ℕ}
use mathlib.Core.Path.{◌≡◌, sym, ap, ◌∙◌}
use mathlib.Core.Bool.{true, false, not}
use lib.Dec.{eqb}
use borrow.Author.Tests.{eq-eqb, ne_eqb, eqb-true, not-false}
use Rattle.scope.specs.Refusal.{◌when◌}
use Rattle.scope.specs.declared.Reason.{Reason}
use Rattle.scope.proofs.Judged.{Passes}
use Rattle.scope.proofs.Limits.{passes_when}

pub differs : {x y a b : ℕ} → x ≡ a → y ≡ b → (x ≡ y → ⊥) → not (eqb a b) ≡ true
differs p q n = ap not (ne_eqb _ _ (λ e. n (p ∙ e ∙ sym q)))

pub agrees : {x y a b : ℕ} → x ≡ a → y ≡ b → x ≡ y → not (eqb a b) ≡ false
agrees p q e = ap not (eq-eqb _ _ (sym p ∙ e ∙ q))

-- and what a passed test of that kind tells
pub same : {reason : Reason} (a b : ℕ) → Passes (reason when not (eqb a b)) → a ≡ b
same a b p = eqb-true a b (not-false (eqb a b) (passes_when p))
