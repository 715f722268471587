-- Congruence of natural numbers, with both multiples given: an equivalence that keeps sums and multiples.
-- Every law holds for p = 0 too, where congruent numbers are equal. Assumes nothing.
use mathlib.Core.Path.{◌≡◌, refl, sym, ◌∙◌, ap}
use mathlib.Core.Logic.{◌↔◌, ◌⊎◌, inl, inr}
use Prim.Native.Nat.{ℕ, suc, ◌+◌, ◌-◌, ◌*◌, ◌/◌, ◌%◌, ◌≤◌, ◌<◌}
use native.Mathlib.Nat.{add-mul-mod_self_right, div-add-mod'}
use native.Mathlib.Decide.{dec_lt}
use native.Mathlib.Omega.{arith}

-- the order of two numbers, decided
pub split : (a b : ℕ) → (a < b) ⊎ (b ≤ a)
split a b = go (dec_lt a b)
  where
    go : Dec (a < b) → (a < b) ⊎ (b ≤ a)
    go (yes h) = inl h
    go (no h) = inr (omega arith)

-- a ≡ b (mod p)
pub record Cong (p a b : ℕ) : Type 0 where
  pub up : ℕ
  pub down : ℕ
  pub same : a + up * p ≡ b + down * p

-- equal numbers are congruent
pub cong_eq : (p : ℕ) {a b : ℕ} → a ≡ b → Cong p a b
cong_eq p e = record { up = 0; down = 0; same = omega arith }

-- it is an equivalence
pub cong_refl : (p a : ℕ) → Cong p a a
cong_refl p a = cong_eq p refl

pub cong_sym : {p a b : ℕ} → Cong p a b → Cong p b a
cong_sym h = record { up = h.down; down = h.up; same = sym h.same }

pub cong_trans : {p a b c : ℕ} → Cong p a b → Cong p b c → Cong p a c
cong_trans h k = record { up = h.up + k.up; down = h.down + k.down; same = omega arith }

-- it keeps sums, multiples and products, and a summand cancels
cong_add : {p a b c d : ℕ} → Cong p a b → Cong p c d → Cong p (a + c) (b + d)
cong_add h k = record { up = h.up + k.up; down = h.down + k.down; same = omega arith }

cong_mul : {p a b : ℕ} (k : ℕ) → Cong p a b → Cong p (k * a) (k * b)
cong_mul k h = record { up = k * h.up; down = k * h.down; same = omega (arith, ap (λ x. k * x) h.same) }

pub cong_cancel : {p a b : ℕ} (c : ℕ) → Cong p (a + c) (b + c) → Cong p a b
cong_cancel c h = record { up = h.up; down = h.down; same = omega arith }

-- a combination of two congruences, less the same number on both sides
pub cong_mix : {p a b c d x y : ℕ} (k l z : ℕ) → Cong p a b → Cong p c d → x + z ≡ k * a + l * c → y + z ≡ k * b + l * d → Cong p x y
cong_mix {p} {x = x} {y = y} k l z g h e₁ e₂ = cong_cancel z (cong_trans (cong_eq p e₁) (cong_trans (cong_add (cong_mul k g) (cong_mul l h)) (cong_eq p (sym e₂))))

-- one of two congruent numbers is the other and some periods
pub cong_cases : {p a b : ℕ} → Cong p a b → ((k : ℕ) × (a ≡ b + k * p)) ⊎ ((k : ℕ) × (b ≡ a + suc k * p))
cong_cases {p} {a} {b} h = go (split h.down h.up)
  where
    go : (h.down < h.up) ⊎ (h.up ≤ h.down) → ((k : ℕ) × (a ≡ b + k * p)) ⊎ ((k : ℕ) × (b ≡ a + suc k * p))
    go (inl l) =
        let k : ℕ = h.up - suc h.down in
        let e : suc k + h.down ≡ h.up = omega arith in
        inr (k, omega (arith, ap (λ x. x * p) e))
    go (inr l) =
        let k : ℕ = h.down - h.up in
        let e : k + h.up ≡ h.down = omega arith in
        inl (k, omega (arith, ap (λ x. x * p) e))

-- the least of its class is below every number of it
pub cong_least : {p a b : ℕ} → Cong p a b → b < p → b ≤ a
cong_least {p} {a} {b} h l = go (cong_cases h)
  where
    go : ((k : ℕ) × (a ≡ b + k * p)) ⊎ ((k : ℕ) × (b ≡ a + suc k * p)) → b ≤ a
    go (inl (k, e)) = omega arith
    go (inr (k, e)) = omega arith

-- below p no two numbers are congruent
pub cong_below : {p a b : ℕ} → Cong p a b → a < p → b < p → a ≡ b
cong_below h la lb = omega (arith, cong_least h lb, cong_least (cong_sym h) la)

-- a number and its remainder are congruent
pub cong_mod : (p a : ℕ) → Cong p (a % p) a
cong_mod p a = record { up = a / p; down = 0; same = omega (arith, div-add-mod' a p) }

-- congruent numbers are those with equal remainders
pub cong_iff_mod : (p a b : ℕ) → Cong p a b ↔ (a % p ≡ b % p)
cong_iff_mod p a b = (to, from)
  where
    to : Cong p a b → a % p ≡ b % p
    to h = sym (add-mul-mod_self_right a h.up p) ∙ ap (λ x. x % p) h.same ∙ add-mul-mod_self_right b h.down p

    from : a % p ≡ b % p → Cong p a b
    from e = cong_trans (cong_sym (cong_mod p a)) (cong_trans (cong_eq p e) (cong_mod p b))
