-- Integers as differences of natural numbers: every integer is `diff a b`, that is a - b, for some a and b.
-- For identities: a lemma takes each integer apart by `of a b`, and `simp differences (omega arith)` proves what is left.
-- `diff` stays shut, so that only its laws are used. Assumes nothing.
use mathlib.Core.Path.{◌≡◌, sym, ap, subst}
use mathlib.Core.Logic.{◌↔◌}
use Prim.Native.Nat.{ℕ, suc, ◌+◌, ◌*◌, ◌^◌, ◌≤◌, ◌<◌}
use native.Mathlib.Omega.{arith}
use lib.IntN.{ℤ, pos, negsuc, neg_ℤ, sub_ℕ, ◌+ℤ◌, ◌*ℤ◌}
use lib.Signed.{◌≤ℤ◌, ◌<ℤ◌}
use mir.Syntax.{w64}
use mir.Val.{SFits}
use Rattle.signed.proofs.Parts as Parts
use Rattle.signed.proofs.Parts.{up, dn, parts, apart}

-- a - b
pub diff : ℕ → ℕ → ℤ
diff a b = sub_ℕ a b

pub diff_parts : (a b : ℕ) → up (diff a b) + b ≡ a + dn (diff a b)
unfolding diff
diff_parts a b = Parts.sub_parts a b

-- the constructors, and what a negated literal is
pub pos_diff : (n : ℕ) → pos n ≡ diff n 0
pos_diff n = omega (arith, parts, diff_parts n 0)

pub negsuc_diff : (n : ℕ) → negsuc n ≡ diff 0 (suc n)
negsuc_diff n = omega (arith, parts, diff_parts 0 (suc n))

pub neg_pos_diff : (n : ℕ) → neg_ℤ (pos n) ≡ diff 0 n
neg_pos_diff n = omega (arith, parts, diff_parts 0 n, Parts.neg_up (pos n), Parts.neg_dn (pos n))

-- the operations
pub diff_neg : (a b : ℕ) → neg_ℤ (diff a b) ≡ diff b a
diff_neg a b = omega (arith, parts, diff_parts a b, diff_parts b a, Parts.neg_up (diff a b), Parts.neg_dn (diff a b))

pub diff_sum : (a b c d : ℕ) → diff a b +ℤ diff c d ≡ diff (a + c) (b + d)
diff_sum a b c d = omega (arith, parts, diff_parts a b, diff_parts c d, diff_parts (a + c) (b + d), Parts.sum (diff a b) (diff c d))

-- x - y and u - v stand for a - b and c - d, so their products agree
times : (x y a b u v c d : ℕ) → x + b ≡ a + y → u + d ≡ c + v → x * u + y * v + (a * d + b * c) ≡ a * c + b * d + (x * v + y * u)
times x y a b u v c d h k =
    omega (arith, ap (λ (l : ℕ). l * u) h, ap (λ (l : ℕ). l * v) h, ap (λ (l : ℕ). a * l) k, ap (λ (l : ℕ). b * l) k)

pub diff_product : (a b c d : ℕ) → diff a b *ℤ diff c d ≡ diff (a * c + b * d) (a * d + b * c)
diff_product a b c d =
    omega (
      arith,
      parts,
      diff_parts (a * c + b * d) (a * d + b * c),
      Parts.product (diff a b) (diff c d),
      times (up (diff a b)) (dn (diff a b)) a b (up (diff c d)) (dn (diff c d)) c d (diff_parts a b) (diff_parts c d),
    )

-- the relations
pub diff_le : (a b c d : ℕ) → (diff a b ≤ℤ diff c d) ↔ (a + d ≤ c + b)
diff_le a b c d = omega (arith, parts, diff_parts a b, diff_parts c d)

pub diff_lt : (a b c d : ℕ) → (diff a b <ℤ diff c d) ↔ (a + d < c + b)
diff_lt a b c d = omega (arith, parts, diff_parts a b, diff_parts c d)

pub diff_eq : (a b c d : ℕ) → (diff a b ≡ diff c d) ↔ (a + d ≡ c + b)
diff_eq a b c d = omega (arith, parts, diff_parts a b, diff_parts c d)

pub diff_fits : (a b : ℕ) → SFits w64 (diff a b) ↔ ((a < b + 2 ^ 63) × (b ≤ a + 2 ^ 63))
diff_fits a b = omega (arith, parts, diff_parts a b, apart (diff a b))

-- every integer is a difference
pub data Is : ℤ → Type 0 where
  of : (a b : ℕ) → Is (diff a b)

pub int : (z : ℤ) → Is z
int (pos n) = subst Is (sym (pos_diff n)) (of n 0)
int (negsuc n) = subst Is (sym (negsuc_diff n)) (of 0 (suc n))

-- for simp's list: takes a statement over differences to one over natural numbers
pub ruleset differences = (pos_diff, negsuc_diff, neg_pos_diff, diff_neg, diff_sum, diff_product, diff_le, diff_lt, diff_eq, diff_fits)
