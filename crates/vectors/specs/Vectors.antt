-- Document 01, "Step vectors": the lattice, the pair and the single vector.
use Rattle.std.specs.Prelude.{ℕ, ◌+◌, ◌*◌, ◌/◌, ◌≤◌, ◌<◌, ◌≡◌, ℤ, pos, neg_ℤ, nat_abs, ◌+ℤ◌, ◌-ℤ◌, ◌*ℤ◌, ◌≤ℤ◌, ◌<ℤ◌}
use Rattle.std.specs.Int.{◌∣◌}
use Rattle.lattice.specs.Gcd.{IsGcd}
use Rattle.vectors.specs.declared.Vector.{Vector}

-- "(α, β)": the vector of two numbers.
abbrev pub vector : ℤ → ℕ → Vector
vector offset line = record { offset = offset; line = line }

-- "i ≡ r·j (mod p), the lattice of source document 002": p divides r·j - i.
unfoldable pub InLattice : ℕ → ℕ → Vector → Type 0
InLattice p r v = p ∣ nat_abs (pos (r * v.line) -ℤ v.offset)

-- "Pair (α, β), (γ, δ): both lie in the lattice, β > 0, δ > 0, -I < α ≤ 0 ≤ γ < I, γ - α ≥ I, and β·γ - α·δ = p".
-- `left` is (α, β) and `right` is (γ, δ).
pub record IsPair (p r I : ℕ) (left right : Vector) : Type 0 where
  pub left_in : InLattice p r left
  pub right_in : InLattice p r right
  pub left_rises : 0 < left.line
  pub right_rises : 0 < right.line
  pub left_low : neg_ℤ (pos I) <ℤ left.offset
  pub left_high : left.offset ≤ℤ pos 0
  pub right_low : pos 0 ≤ℤ right.offset
  pub right_high : right.offset <ℤ pos I
  pub apart : pos I ≤ℤ (right.offset -ℤ left.offset)
  pub area : (pos left.line *ℤ right.offset) -ℤ (left.offset *ℤ pos right.line) ≡ pos p

-- "no pair exists exactly when g ≥ I": that some pair exists.
pub record APair (p r I : ℕ) : Type 0 where
  pub left : Vector
  pub right : Vector
  pub is_pair : IsPair p r I left right

-- "(so they are a basis)": the point (i, j) is k times the one vector and l times the other, k and l being whole numbers.
pub record Whole (left right : Vector) (i j : ℤ) : Type 0 where
  pub k : ℤ
  pub l : ℤ
  pub offset : i ≡ (k *ℤ left.offset) +ℤ (l *ℤ right.offset)
  pub line : j ≡ (k *ℤ pos left.line) +ℤ (l *ℤ pos right.line)

-- 002, proposition 1, second half: "(i, j) = k(α, β) + l(γ, δ) with k ≥ 0 and l ≥ 0".
pub record Sum (left right v : Vector) : Type 0 where
  pub k : ℕ
  pub l : ℕ
  pub offset : v.offset ≡ (pos k *ℤ left.offset) +ℤ (pos l *ℤ right.offset)
  pub line : v.line ≡ k * left.line + l * right.line

-- "Single: no pair exists exactly when g ≥ I. The reply is then (0, p/g)".
pub record IsSingle (p r I : ℕ) (v : Vector) : Type 0 where
  pub g : ℕ
  pub is_gcd : IsGcd g r p
  pub wide : I ≤ g
  pub at_zero : v.offset ≡ pos 0
  pub rises : v.line ≡ p / g

-- 01's values for the two kinds of reply that are no refusal.
pub data Values : Type 0 where
  -- "Pair (α, β), (γ, δ)"
  pair : (α : ℤ) (β : ℕ) (γ : ℤ) (δ : ℕ) → Values
  -- "Single .. The reply is then (0, p/g)": the vector (i, j)
  single : (i : ℤ) (j : ℕ) → Values
