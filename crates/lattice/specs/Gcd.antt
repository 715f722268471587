-- The greatest common divisor, which document 01's step vectors speak of.
use Rattle.std.specs.Prelude.{ℕ}
use Rattle.std.specs.Int.{◌∣◌}

-- "g = gcd(r, p), where gcd(0, p) = p": it divides both, and every number that does divides it.
pub record IsGcd (g r p : ℕ) : Type 0 where
  pub divides_left : g ∣ r
  pub divides_right : g ∣ p
  pub greatest : (d : ℕ) → d ∣ r → d ∣ p → d ∣ g
