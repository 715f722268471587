-- Document 01, "The measurement in numbers", and request E5: when a source hits a cell, and the list of the cells that it hits.
use Rattle.std.specs.Prelude.{ℕ, zero, suc, ◌-◌, ◌*◌, ◌%◌, Bool, cond, List, [], ◌∷◌, eqb, ℤ, pos, nat_abs, ◌-ℤ◌}
use Rattle.std.specs.Int.{◌∣◌}
use Rattle.scope.specs.declared.Run.{Run}
use Rattle.scope.specs.declared.Source.{Source}
use Rattle.scope.specs.Run.{cells_of, line_of, offset_of}

-- "Cell (i, j) stands for the instant T·j - i", an integer.
unfoldable pub instant : Run → ℤ → ℕ → ℤ
instant run i j = pos (run.interval * j) -ℤ i

-- "It hits (i, j) exactly when p divides T·j - i - s" (E5): that is an integer, which may be below 0, and p divides its size.
unfoldable pub Hits : Run → Source → ℤ → ℕ → Type 0
Hits run source i j = source.period ∣ nat_abs (instant run i j -ℤ pos source.phase)

-- The same of the cell with number x, as a test: the remainder of the division is 0.
unfoldable pub is_hit : Run → Source → ℕ → Bool
is_hit run source x = eqb (nat_abs (instant run (offset_of run x) (line_of run x) -ℤ pos source.phase) % source.period) 0

-- The hit cells among the n cells from x on, in rising order.
unfoldable pub hits_among : Run → Source → ℕ → ℕ → List ℕ
hits_among run source x zero = []
hits_among run source x (suc n) = let more = hits_among run source (suc x) n in cond (is_hit run source x) (x ∷ more) more

-- "Hit cells not below the start", of the whole run, in rising order.
unfoldable pub hits_from : Run → Source → ℕ → List ℕ
hits_from run source x = hits_among run source x (cells_of run - x)
