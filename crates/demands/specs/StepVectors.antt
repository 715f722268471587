-- Demand 2: "For each period, remainder below it and window no wider than it, the step vectors are those of Franke and
-- Kleinjung's first proposition, or the single vector where no such pair exists."
use Rattle.std.specs.Prelude.{ℕ, ◌/◌, ◌%◌, ◌≤◌, ◌<◌, ◌≡◌, pos}
use Rattle.scope.specs.Reply.{Said, refused, answered}
use Rattle.vectors.specs.Vectors.{vector, IsPair, Values, pair, single}

-- "each period, remainder below it and window no wider than it", within 01's ranges.
pub record ValidQuestion (p r I : ℕ) : Type 0 where
  pub period : p ≤ 2147483647
  pub remainder : r < p
  pub even : I % 2 ≡ 0
  pub narrow : 2 ≤ I
  pub wide : I ≤ 4096
  pub fits : I ≤ p

-- "The step vectors", g being the greatest common divisor of r and p: the pair of the proposition, or where g is no less
-- than the window the single vector (0, p/g).
abbrev pub StepVectors : ℕ → ℕ → ℕ → ℕ → Said Values → Type 0
StepVectors p r I g (answered (pair α β γ δ)) = IsPair p r I (vector α β) (vector γ δ)
StepVectors p r I g (answered (single i j)) = (I ≤ g) × (i ≡ pos 0) × (j ≡ p / g)
StepVectors p r I g (refused n place) = ⊥
