-- The list of the hits from a cell on, by the first hit that a search finds. Assumes nothing.
use Prim.Native.Nat.{ℕ, ◌≤◌, ◌<◌}
use mathlib.Core.Path.{◌≡◌}
use mathlib.Core.Option.{some, none}
use native.Mathlib.Omega.{arith}
use Rattle.std.specs.Prelude.{Option as Option·code, Some, None}
use Rattle.scope.specs.declared.Run.{Run}
use Rattle.scope.specs.declared.Source.{Source}
use Rattle.scope.specs.Run.{ValidRun, ValidSource, cells_of}
use Rattle.scope.specs.Hit.{hits_from}
use Rattle.scope.proofs.Hits.{hits_end, hits_at, hits_over}
use Rattle.scope.specs.declared.RunCell.{RunCell}
use Rattle.scope.proofs.Judged.{Passes}
use Rattle.scope.proofs.Limits.{passes_first, passes_then, passes_when, valid_run, valid_source}
use borrow.Author.Tests.{leb-false}
use Rattle.hits.specs.Promise.{first, first_hit_tests, cell_number}
use Rattle.search.specs.Inner.{FirstFrom, FirstHit}

-- what a call that no test stops may go by
pub record Allowed (run : Run) (source : Source) (start : RunCell) : Type 0 where
  pub valid : ValidRun run
  pub source_valid : ValidSource source
  pub inside : start.0 < cells_of run

pub allowed : {run : Run} {source : Source} {start : RunCell} → run.interval ≤ 4294967295 → Passes (first_hit_tests run source start) → Allowed run source start
unfolding first_hit_tests
allowed fits p = record {
  valid = valid_run (passes_first (passes_first p)) fits;
  source_valid = valid_source (passes_then (passes_first p));
  inside = leb-false _ _ (passes_when (passes_then p));
}

module _ {run : Run} {source : Source} {x y : ℕ} (f : FirstFrom run source x y) where
  -- from x on the hits are those from y on
  pub hits_same : hits_from run source x ≡ hits_from run source y
  hits_same = hits_over run source x y f.from f.none

  first_is : y < cells_of run → some y ≡ first (hits_from run source x)
  first_is h = rw (hits_same, hits_at run source y h (f.hit h))

  first_isn't : cells_of run ≤ y → none ≡ first (hits_from run source x)
  first_isn't h = rw (hits_same, hits_end run source y h)

-- what the search found is the first of them
pub found_first : (run : Run) (source : Source) (x : ℕ) (found : Option·code RunCell) → FirstHit run source x found → cell_number found ≡ first (hits_from run source x)
found_first run source x (Some cell) h = first_is h.1 h.0
found_first run source x None h = first_isn't h (omega arith)
