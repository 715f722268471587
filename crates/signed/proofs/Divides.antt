-- A natural number p divides an integer z: p ∣ nat_abs z. Told of a difference by multiples of p and by remainders.
-- Every law holds for p = 0 too: 0 divides 0 alone, and n % 0 is n. Assumes nothing.
use mathlib.Core.Path.{◌≡◌, sym, ap, ◌∙◌}
use mathlib.Core.Bool.{true}
use mathlib.Core.Logic.{◌↔◌}
use Prim.Native.Nat.{ℕ, suc, ◌+◌, ◌*◌, ◌/◌, ◌%◌, ◌∣◌}
use native.Mathlib.Omega.{arith}
use native.Mathlib.Nat.{dvd-mul_left, dvd-add_iff_left, dvd_iff_mod-eq-zero, div-mul_cancel, mod-add-div', add-mul-mod_self_right}
use lib.Dec.{eqb}
use lib.IntN.{ℤ, pos, negsuc, neg_ℤ, nat_abs, ◌+ℤ◌, ◌-ℤ◌, ◌*ℤ◌}
use borrow.Author.Tests.{eqb-true, eq-eqb}
use Rattle.signed.proofs.Parts.{up, dn, parts, sum, product, neg_up, neg_dn}
use Rattle.signed.proofs.Difference.{diff, diff_parts}

-- multiples of p lead from a and from b to one number
abbrev Multiples : ℕ → ℕ → ℕ → Type 0
Multiples p a b = (x : ℕ) × (y : ℕ) × (a + x * p ≡ b + y * p)

-- p divides z exactly if multiples of p lead from its parts to one number
to_parts : (p : ℕ) (z : ℤ) → p ∣ nat_abs z → Multiples p (up z) (dn z)
to_parts p (pos n) h = (0, n / p, omega (arith, div-mul_cancel p h))
to_parts p (negsuc n) h = (suc n / p, 0, omega (arith, div-mul_cancel p h))

-- n and some multiples of p make a multiple of p
left_over : (p n x y : ℕ) → n + x * p ≡ y * p → p ∣ n
left_over p n x y e = (dvd-add_iff_left p (dvd-mul_left p x)).1 (rw e (dvd-mul_left p y))

of_parts : (p : ℕ) (z : ℤ) → Multiples p (up z) (dn z) → p ∣ nat_abs z
of_parts p (pos n) m = left_over p n m.0 m.1 (omega arith)
of_parts p (negsuc n) m = left_over p (suc n) m.1 m.0 (omega arith)

-- and exactly if z is a whole multiple of p, one below 0 too
pub divides_turns : (p : ℕ) (z : ℤ) → (p ∣ nat_abs z) ↔ ((k : ℤ) × (z ≡ k *ℤ pos p))
divides_turns p z = (
  λ h. let m = to_parts p z h in let k = diff m.1 m.0 in (k, omega (arith, parts, m.2, product k (pos p), ap (λ (n : ℕ). n * p) (diff_parts m.1 m.0))),
  λ t. of_parts p z (dn t.0, up t.0, omega (arith, parts, t.1, product t.0 (pos p))),
)

divides_multiples : (p a b : ℕ) → (p ∣ nat_abs (diff a b)) ↔ Multiples p a b
divides_multiples p a b = (
  λ h. let m = to_parts p (diff a b) h in (m.0, m.1, omega (arith, diff_parts a b)),
  λ m. of_parts p (diff a b) (m.0, m.1, omega (arith, diff_parts a b)),
)

pub multiples_mod : (p a b : ℕ) → Multiples p a b ↔ (a % p ≡ b % p)
multiples_mod p a b = (
  λ m. sym (add-mul-mod_self_right a m.0 p) ∙ ap (λ (n : ℕ). n % p) m.2 ∙ add-mul-mod_self_right b m.1 p,
  λ e. (b / p, a / p, omega (arith, mod-add-div' a p, mod-add-div' b p)),
)

divides_mod : (p a b : ℕ) → (p ∣ nat_abs (diff a b)) ↔ (a % p ≡ b % p)
divides_mod p a b =
    (λ h. (multiples_mod p a b).0 ((divides_multiples p a b).0 h), λ e. (divides_multiples p a b).1 ((multiples_mod p a b).1 e))

-- the Boolean test
pub divides_test : (p : ℕ) (z : ℤ) → (eqb (nat_abs z % p) 0 ≡ true) ↔ (p ∣ nat_abs z)
divides_test p z =
    (λ e. (dvd_iff_mod-eq-zero p).1 (eqb-true (nat_abs z % p) 0 e), λ h. eq-eqb (nat_abs z % p) 0 ((dvd_iff_mod-eq-zero p).0 h))

-- x - y is a - b, written without a difference: for a hit, x is T * j, y the offset i, a is T * j + I / 2, b is i + I / 2
pub divides_apart : (p a b : ℕ) (x y : ℤ) → x +ℤ pos b ≡ y +ℤ pos a → (p ∣ nat_abs (x -ℤ y)) ↔ (a % p ≡ b % p)
divides_apart p a b x y e = rw same (divides_mod p a b)
  where
    same : x -ℤ y ≡ diff a b
    same = omega (arith, parts, diff_parts a b, sum x (neg_ℤ y), neg_up y, neg_dn y, sum x (pos b), sum y (pos a))
