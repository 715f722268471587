-- The tests of the blocks after block 0, one after the other. Assumes nothing.
use Prim.Native.Nat.{ℕ, zero, suc, ◌+◌, ◌-◌, ◌*◌, ◌≤◌, ◌<◌}
use mathlib.Core.Path.{◌≡◌}
use mathlib.Core.List.{List}
use native.Mathlib.Nat.{add-zero, add-suc}
use native.Mathlib.Numerals.{add-one}
use native.Mathlib.Omega.{arith}
use Rattle.std.specs.Prelude.{Result, Ok, Err}
use Rattle.scope.specs.declared.Refusal.{Refusal}
use Rattle.scope.specs.Refusal.{complaint}
use Rattle.scope.specs.declared.Reason.{Reason}
use Rattle.scope.specs.declared.Place.{Place}
use Rattle.scope.specs.Inner.{verdict}
use Rattle.scope.proofs.Judged.{Fails, Passes, no_tests, first, then, both, fine, blamed}
use Rattle.fileblocks.specs.FileBlock.{content_bytes, file_block_tests}
use Rattle.saved.specs.File.{file_block_at, later_file_blocks_tests, file_blocks_for}

-- the first k blocks of a file with so many bytes of cells pass their tests
pub record CellsJudged (size : ℕ) (file : List ℕ) (k : ℕ) : Type 0 where
  pub within : k ≤ file_blocks_for size
  pub passes : Passes (later_file_blocks_tests size file k)

pub judged_none : {size : ℕ} {file : List ℕ} → CellsJudged size file 0
unfolding later_file_blocks_tests
judged_none = record { within = omega arith; passes = no_tests }

-- tests that fail do so whatever comes behind them
fails_on : {reason : Reason} {place : Place} (size : ℕ) (file : List ℕ) (k d : ℕ) → Fails (later_file_blocks_tests size file k) reason place → Fails (later_file_blocks_tests size file (k + d)) reason place
unfolding later_file_blocks_tests
fails_on size file k zero f = rw (add-zero k) f
fails_on size file k (suc d) f = rw (add-suc k d) (first (fails_on size file k d f))

-- what the code finds of block k + 1
module _ {size k : ℕ} {file block : List ℕ} {v : Result (Unit {0}) Refusal} (s : CellsJudged size file k) (begun : k < file_blocks_for size) (is : block ≡ file_block_at file (suc k))
    (found : v ≡ verdict (complaint (file_block_tests (k + 1) (size - content_bytes * k) block))) where
  as_file_block : v ≡ verdict (complaint (file_block_tests (suc k) (size - content_bytes * k) (file_block_at file (suc k))))
  as_file_block = rw (is, add-one k) at found

  -- it passes too
  pub judged_more : v ≡ Ok tt → CellsJudged size file (k + 1)
  unfolding later_file_blocks_tests
  judged_more e = record { within = omega (arith, begun); passes = rw (add-one k) (both s.passes (fine as_file_block e)) }

  -- it fails: so do all together
  pub judged_fails : {r : Refusal} → v ≡ Err r → Fails (later_file_blocks_tests size file (file_blocks_for size)) r.reason r.place
  unfolding later_file_blocks_tests
  judged_fails e =
      let all : suc k + (file_blocks_for size - suc k) ≡ file_blocks_for size = omega (arith, begun) in
      rw all at (fails_on size file (suc k) (file_blocks_for size - suc k) (then s.passes (blamed as_file_block e)))

-- no block is to come: all pass
pub judged_all : {size k : ℕ} {file : List ℕ} → CellsJudged size file k → file_blocks_for size ≤ k → Passes (later_file_blocks_tests size file (file_blocks_for size))
judged_all {size} {k} s h =
    let all : k ≡ file_blocks_for size = omega (arith, h, s.within) in
    rw all at s.passes
