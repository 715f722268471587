-- Request E5: "Vectors stay; a single vector's hits may then sit at another single offset, or nowhere." With g, the greatest common
-- divisor of r and p, not below the window there is a single vector, (0, p/g).
use Rattle.std.specs.Prelude.{ℕ, ◌/◌, ◌≡◌, ◌↔◌, ℤ, pos, nat_abs, ◌+ℤ◌, ◌-ℤ◌}
use Rattle.std.specs.Int.{◌∣◌}
use Rattle.scope.specs.declared.Run.{Run}
use Rattle.scope.specs.declared.Source.{Source}
use Rattle.scope.specs.Hit.{Hits}
use Rattle.hits.specs.Proposition.{InWindow}

-- "at another single offset": all hits of the window are at offset i, on a line and every p/g lines before and after it; g divides i + s.
pub record SitAt (run : Run) (source : Source) (g : ℕ) (i : ℤ) : Type 0 where
  pub inside : InWindow run i
  pub divides : g ∣ nat_abs (i +ℤ pos source.phase)
  pub line : ℕ
  pub hits : (i' : ℤ) (j : ℕ) → InWindow run i' → Hits run source i' j ↔ ((i' ≡ i) × (source.period / g ∣ nat_abs (pos j -ℤ pos line)))

-- "or nowhere": no offset i of the window is hit, on whatever line, and g divides i + s for none.
pub record SitNowhere (run : Run) (source : Source) (g : ℕ) : Type 0 where
  pub divides : (i : ℤ) → InWindow run i → g ∣ nat_abs (i +ℤ pos source.phase) → ⊥
  pub none : (i : ℤ) (j : ℕ) → InWindow run i → Hits run source i j → ⊥
