-- Multiples: a factor cancels; the least multiple of m above x; what is left of n, below W, less multiples of m.
-- Assumes nothing.
use mathlib.Core.Path.{◌≡◌}
use Prim.Native.Nat.{ℕ, zero, suc, ◌+◌, ◌-◌, ◌*◌, ◌/◌, ◌≤◌, ◌<◌}
use native.Mathlib.Nat.{le_of_mul-le-mul_left, div-mul-le_self, lt-div-mul-add, div-lt_iff_lt-mul}
use native.Mathlib.Omega.{arith}

-- a factor that is not 0 cancels
pub cancel : {p a b : ℕ} → 0 < p → p * a ≡ p * b → a ≡ b
cancel {p} {a} {b} h e =
    let up = le_of_mul-le-mul_left {m = a} {n = b} {k = p} (omega arith) h in
    let down = le_of_mul-le-mul_left {m = b} {n = a} {k = p} (omega arith) h in
    omega arith

-- a product is 0 only if a factor is
pub zero_factor : {a b : ℕ} → 0 < a → a * b ≡ 0 → b ≡ 0
zero_factor {a} {b} h e = cancel h (omega arith)

-- t·m is the least multiple of m above x
pub record Above (x m t : ℕ) : Type 0 where
  pub past : x < t * m
  pub close : t * m ≤ x + m
  pub least : (k : ℕ) → x < k * m → t ≤ k

-- it is the one after the quotient
pub above : (x : ℕ) {m : ℕ} → 0 < m → Above x m (x / m + 1)
above x {m} h = record {
  past = omega (arith, lt-div-mul-add {a = x} h);
  close = omega (arith, div-mul-le_self x m);
  least = λ k l. omega (arith, (div-lt_iff_lt-mul {x = x} {y = k} h).1 l);
}

-- n less a·m is k, which is below W by no more than m
pub record Rest (n m W a k : ℕ) : Type 0 where
  pub sum : n ≡ a * m + k
  pub below : k < W
  pub close : W ≤ k + m

-- a is found by one division
pub rest : {n m W : ℕ} → 0 < m → m ≤ W → W ≤ n → Rest n m W ((n - W) / m + 1) (n - ((n - W) / m + 1) * m)
rest {n} {m} {W} h m≤W W≤n =
    let a = above (n - W) h in
    record { sum = omega arith; below = omega arith; close = omega arith }

-- some of n has to go if n is not below W
pub rest_some : {n m W a k : ℕ} → W ≤ n → Rest n m W a k → 1 ≤ a
rest_some {n} {m} {W} {a} {k} W≤n h = go a h.sum
  where
    go : (i : ℕ) → n ≡ i * m + k → 1 ≤ i
    go zero e = absurd (omega (arith, h.below))
    go (suc i) e = omega arith
