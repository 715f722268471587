-- The positive and the negative part of an integer: z is up z - dn z, and one of the two is 0.
-- For linear facts: `omega (arith, parts, sum x y)` reads and proves the orders of ℤ by the rules of `parts`.
-- Assumes nothing.
use mathlib.Core.Path.{◌≡◌, refl, sym, ap, ◌∙◌, subst}
use mathlib.Core.Logic.{◌↔◌}
use Prim.Native.Nat.{ℕ, zero, suc, ◌+◌, ◌*◌, ◌^◌, ◌≤◌, ◌<◌, min, max}
use native.Mathlib.Omega.{arith}
use native.Mathlib.Decide.{dec_lt}
use mathlib.Core.Bool.{Bool, true, false, not, true≢false}
use lib.Dec.{T, leb→le, le→leb, ltb→lt, lt→ltb}
use lib.IntN.{ℤ, pos, negsuc, neg_ℤ, nat_abs, sub_ℕ, ◌+ℤ◌, ◌*ℤ◌}
use lib.Signed.{◌≤ℤ◌, ◌<ℤ◌, lt_z, le_z, lt_z_no}
use borrow.Author.Tests.{lt-ltb, le-ltb}
use mir.Syntax.{w64}
use mir.Val.{SFits}

-- what of z lies above 0
abbrev pub up : ℤ → ℕ
up (pos n) = n
up (negsuc n) = 0

-- how far z lies below 0
abbrev pub dn : ℤ → ℕ
dn (pos n) = 0
dn (negsuc n) = suc n

-- one of the parts is 0
pub apart : (z : ℤ) → min (up z) (dn z) ≡ 0
apart (pos n) = omega arith
apart (negsuc n) = omega arith

pub abs_parts : (z : ℤ) → nat_abs z ≡ up z + dn z
abs_parts (pos n) = omega arith
abs_parts (negsuc n) = omega arith

pub same_parts : (x y : ℤ) → up x + dn y ≡ up y + dn x → x ≡ y
same_parts (pos a) (pos b) h = ap pos (omega arith)
same_parts (pos a) (negsuc b) h = absurd (omega arith)
same_parts (negsuc a) (pos b) h = absurd (omega arith)
same_parts (negsuc a) (negsuc b) h = ap negsuc (omega arith)

pub parts_same : (x y : ℤ) → x ≡ y → up x + dn y ≡ up y + dn x
parts_same x y e = rw e

pub neg_up : (z : ℤ) → up (neg_ℤ z) ≡ dn z
neg_up (pos zero) = refl
neg_up (pos (suc n)) = refl
neg_up (negsuc n) = refl

pub neg_dn : (z : ℤ) → dn (neg_ℤ z) ≡ up z
neg_dn (pos zero) = refl
neg_dn (pos (suc n)) = refl
neg_dn (negsuc n) = refl

-- a - b, as the sum has it, by its parts
below : (a b : ℕ) → a < b → up (sub_ℕ a b) + b ≡ a + dn (sub_ℕ a b)
below a b h = rw (lt-ltb a b h) (omega arith)

above : (a b : ℕ) → b ≤ a → up (sub_ℕ a b) + b ≡ a + dn (sub_ℕ a b)
above a b h = rw (le-ltb a b h) (omega arith)

pub sub_parts : (a b : ℕ) → up (sub_ℕ a b) + b ≡ a + dn (sub_ℕ a b)
sub_parts a b = elim (dec_lt a b) [ yes h ↦ below a b h | no h ↦ above a b (omega arith) ]

-- the sum and the product by their parts
pub sum : (x y : ℤ) → up (x +ℤ y) + (dn x + dn y) ≡ up x + up y + dn (x +ℤ y)
sum (pos a) (pos b) = omega arith
sum (pos a) (negsuc b) = omega (arith, sub_parts a (suc b))
sum (negsuc a) (pos b) = omega (arith, sub_parts b (suc a))
sum (negsuc a) (negsuc b) = omega arith

pub product : (x y : ℤ) → up (x *ℤ y) + (up x * dn y + dn x * up y) ≡ up x * up y + dn x * dn y + dn (x *ℤ y)
product (pos a) (pos b) = omega arith
product (pos a) (negsuc b) = omega (arith, neg_up (pos (a * suc b)), neg_dn (pos (a * suc b)))
product (negsuc a) (pos b) = omega (arith, neg_up (pos (suc a * b)), neg_dn (pos (suc a * b)))
product (negsuc a) (negsuc b) = omega arith

-- the orders, told by the parts
pub le_parts : (x y : ℤ) → x ≤ℤ y → up x + dn y ≤ up y + dn x
le_parts (pos a) (pos b) h = omega (arith, leb→le a b h.le)
le_parts (pos a) (negsuc b) h = absurd h.le
le_parts (negsuc a) (pos b) h = omega arith
le_parts (negsuc a) (negsuc b) h = omega (arith, leb→le b a h.le)

pub parts_le : (x y : ℤ) → up x + dn y ≤ up y + dn x → x ≤ℤ y
parts_le (pos a) (pos b) h = record { le = le→leb a b (omega arith) }
parts_le (pos a) (negsuc b) h = absurd (omega arith)
parts_le (negsuc a) (pos b) h = record { le = tt }
parts_le (negsuc a) (negsuc b) h = record { le = le→leb b a (omega arith) }

pub lt_parts : (x y : ℤ) → x <ℤ y → up x + dn y < up y + dn x
lt_parts (pos a) (pos b) h = omega (arith, ltb→lt a b h.lt)
lt_parts (pos a) (negsuc b) h = absurd h.lt
lt_parts (negsuc a) (pos b) h = omega arith
lt_parts (negsuc a) (negsuc b) h = omega (arith, ltb→lt b a h.lt)

pub parts_lt : (x y : ℤ) → up x + dn y < up y + dn x → x <ℤ y
parts_lt (pos a) (pos b) h = record { lt = lt→ltb a b (omega arith) }
parts_lt (pos a) (negsuc b) h = absurd (omega arith)
parts_lt (negsuc a) (pos b) h = record { lt = tt }
parts_lt (negsuc a) (negsuc b) h = record { lt = lt→ltb b a (omega arith) }

-- a test on signed numbers, as a branch leaves it
pub lt_z_true : (x y : ℤ) → lt_z x y ≡ true → x <ℤ y
lt_z_true x y e = record { lt = subst T (sym e) tt }

pub lt_z_false : (x y : ℤ) → lt_z x y ≡ false → y ≤ℤ x
lt_z_false x y e = lt_z_no (subst (λ (t : Bool). T (not t)) (sym e) tt)

pub lt_z_parts : (x y : ℤ) → lt_z x y ≡ true → up x + dn y < up y + dn x
lt_z_parts x y e = lt_parts x y (lt_z_true x y e)

pub not_lt_z_parts : (x y : ℤ) → lt_z x y ≡ false → up y + dn x ≤ up x + dn y
not_lt_z_parts x y e = le_parts y x (lt_z_false x y e)

-- a test is true exactly if the order holds
test_true : (t : Bool) → T t → t ≡ true
test_true true h = refl
test_true false h = absurd h

pub lt_z_order : (x y : ℤ) → (lt_z x y ≡ true) ↔ (x <ℤ y)
lt_z_order x y = (lt_z_true x y, λ h. test_true (lt_z x y) h.lt)

pub le_z_order : (x y : ℤ) → (le_z x y ≡ true) ↔ (x ≤ℤ y)
le_z_order x y = (λ e. record { le = subst T (sym e) tt }, λ h. test_true (le_z x y) h.le)

-- it holds or does not
pub le_z_known : (x y : ℤ) → Dec (x ≤ℤ y)
le_z_known x y = go (le_z x y) (le_z_order x y)
  where
    go : (test : Bool) → (test ≡ true) ↔ (x ≤ℤ y) → Dec (x ≤ℤ y)
    go true e = yes (e.0 refl)
    go false e = no (λ h. true≢false (sym (e.1 h)))

pub le_z_false : (x y : ℤ) → le_z x y ≡ false → y <ℤ x
le_z_false x y e =
    let n : up x + dn y ≤ up y + dn x → ⊥ = λ h. true≢false (sym ((le_z_order x y).1 (parts_le x y h)) ∙ e) in
    parts_lt y x (omega (arith, n))

-- z is held by 64 bits
pub fits_parts : (z : ℤ) → SFits w64 z → max (suc (up z)) (dn z) ≤ 2 ^ 63
fits_parts (pos n) f = omega (arith, f.sfits)
fits_parts (negsuc n) f = omega (arith, f.sfits)

pub parts_fit : (z : ℤ) → max (suc (up z)) (dn z) ≤ 2 ^ 63 → SFits w64 z
parts_fit (pos n) h = record { sfits = omega arith }
parts_fit (negsuc n) h = record { sfits = omega arith }

-- for omega's list: reads and proves ≤ℤ, <ℤ, ≡, their tests, and SFits w64
pub ruleset parts = (le_parts, parts_le, lt_parts, parts_lt, parts_same, same_parts, lt_z_parts, not_lt_z_parts, fits_parts, parts_fit)
