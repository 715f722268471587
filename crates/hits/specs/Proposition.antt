-- Document 01, "First hit from a cell on": what 002's proposition 2 says of the hits of a source in the window of a run.
use Rattle.std.specs.Prelude.{ℕ, ◌+◌, ◌/◌, ◌<◌, ℤ, pos, neg_ℤ, ◌+ℤ◌, ◌-ℤ◌, ◌≤ℤ◌, ◌<ℤ◌}
use Rattle.vectors.specs.declared.Vector.{Vector}
use Rattle.scope.specs.declared.Run.{Run}
use Rattle.scope.specs.declared.Source.{Source}
use Rattle.scope.specs.Hit.{Hits}

-- "-I/2 ≤ i < I/2": the offset i lies in the window.
pub record InWindow (run : Run) (i : ℤ) : Type 0 where
  pub left : neg_ℤ (pos (run.window / 2)) ≤ℤ i
  pub right : i <ℤ pos (run.window / 2)

-- "the next hit after (i, j)": (i', j') is a hit in the window on a later line, and on no line in between is one.
pub record NextHit (run : Run) (source : Source) (j : ℕ) (i' : ℤ) (j' : ℕ) : Type 0 where
  pub hits : Hits run source i' j'
  pub inside : InWindow run i'
  pub later : j < j'
  pub none : (i'' : ℤ) (j'' : ℕ) → InWindow run i'' → j < j'' → j'' < j' → Hits run source i'' j'' → ⊥

-- "with A = -I/2: add (α, β) if i ≥ A - α; add (γ, δ) if i < A + I - γ; add both otherwise. Just one case applies."
pub record Cases (run : Run) (source : Source) (left right : Vector) (i : ℤ) (j : ℕ) : Type 0 where
  pub by_left : (neg_ℤ (pos (run.window / 2)) -ℤ left.offset) ≤ℤ i → NextHit run source j (i +ℤ left.offset) (j + left.line)
  pub by_right : i <ℤ ((neg_ℤ (pos (run.window / 2)) +ℤ pos run.window) -ℤ right.offset) → NextHit run source j (i +ℤ right.offset) (j + right.line)
  pub by_both : i <ℤ (neg_ℤ (pos (run.window / 2)) -ℤ left.offset) → ((neg_ℤ (pos (run.window / 2)) +ℤ pos run.window) -ℤ right.offset) ≤ℤ i → NextHit run source j ((i +ℤ left.offset) +ℤ right.offset) (j + (left.line + right.line))
  pub one : (neg_ℤ (pos (run.window / 2)) -ℤ left.offset) ≤ℤ i → i <ℤ ((neg_ℤ (pos (run.window / 2)) +ℤ pos run.window) -ℤ right.offset) → ⊥
