-- Demand 2 and document 01, "First hit from a cell on": which cell the first hit is, by the rule alone.
use Rattle.std.specs.Prelude.{ℕ, ◌+◌, ◌≤◌, ◌<◌, ◌≡◌}
use Rattle.scope.specs.declared.Run.{Run}
use Rattle.scope.specs.declared.Source.{Source}
use Rattle.scope.specs.Run.{cells_of, line_of, offset_of}
use Rattle.scope.specs.Hit.{Hits}

-- "It hits (i, j) exactly when p divides T·j - i - s" (E5), of the cell with number x.
abbrev pub HitsCell : Run → Source → ℕ → Type 0
HitsCell run source x = Hits run source (offset_of run x) (line_of run x)

-- "the smallest hit cell not below it": y is a hit cell of the run, not below x, and no cell in between is hit.
pub record IsFirstHit (run : Run) (source : Source) (x y : ℕ) : Type 0 where
  pub from : x ≤ y
  pub inside : y < cells_of run
  pub hit : HitsCell run source y
  pub least : (z : ℕ) → x ≤ z → z < y → HitsCell run source z → ⊥

-- "none": no cell from x on is hit.
abbrev pub NoHitFrom : Run → Source → ℕ → Type 0
NoHitFrom run source x = (z : ℕ) → x ≤ z → z < cells_of run → HitsCell run source z → ⊥

-- "a line may hold several hits, spaced p apart": the next hit after x on its line is p cells on, if that is on the line still.
pub record NextOnLine (run : Run) (source : Source) (x : ℕ) : Type 0 where
  pub hit : line_of run (x + source.period) ≡ line_of run x → HitsCell run source (x + source.period)
  pub none : (k : ℕ) → 0 < k → k < source.period → line_of run (x + k) ≡ line_of run x → HitsCell run source (x + k) → ⊥
