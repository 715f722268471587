-- What is saved passes the tests of reading, and is read as it was. Assumes nothing.
use Prim.Native.Nat.{ℕ, zero, suc, ◌+◌, ◌-◌, ◌*◌, ◌%◌, ◌≤◌, ◌<◌}
use mathlib.Core.Path.{◌≡◌, refl, sym, ap, ◌∙◌}
use mathlib.Core.List.{List, ◌++◌}
use native.Mathlib.Nat.{le_refl}
use native.Mathlib.Omega.{arith}
use borrow.Author.Tests.{ne_eqb}
use lib.ListN.{length, take, drop, length-append, length-drop}
use lib.Seq.{take-nil, take_all, take_at, drop_at, take-add, drop-drop, take-append-add}
use Rattle.rooms.proofs.Lists.{up_to_drop}
use Rattle.scope.specs.declared.Run.{Run}
use Rattle.scope.specs.Run.{ValidRun, cells_of}
use Rattle.scope.proofs.Judged.{Passes, sound, both, no_tests}
use Rattle.scope.proofs.Limits.{valid_run_passes, cells_few}
use Rattle.fileblocks.specs.FileBlock.{file_block_bytes, content_bytes, Bytes, filled, file_block_of, contents}
use Rattle.saved.specs.File.{heading, first_joined, later_file_blocks, file_blocks_for, file_length, bytes_for, file_of, file_block_at, run_of, bytes_in, map_of, later_file_blocks_tests, file_tests}
use Rattle.saved.proofs.Joined.{first_joined_at}
use Rattle.fileblocks.proofs.FileBlock.{length_file_block_of, take_filled}
use Rattle.saved.proofs.Cells.{cell_bytes, begun_file_block, enough_file_blocks, length_later_file_blocks, length_bytes_in}
use Rattle.saved.proofs.Sealing.{file_block_passes, file_block_contents}
use Rattle.saved.proofs.Heading.{run_told, heading_passes}
use Rattle.scope.proofs.Differs.{agrees}

length_file : (run : Run) (map : List ℕ) → length (file_of run map) ≡ file_length (bytes_for run)
unfolding file_of file_length
length_file run map =
    let h = length_file_block_of 0 (heading run) in
    let c = length_later_file_blocks map (file_blocks_for (bytes_for run)) in
    simp length-append (omega arith)

-- block 0 of the file, and the others
head_at : (run : Run) (map : List ℕ) → file_block_at (file_of run map) 0 ≡ file_block_of 0 (heading run)
unfolding file_block_at file_of
head_at run map = take_at (file_block_of 0 (heading run)) (later_file_blocks map (file_blocks_for (bytes_for run))) file_block_bytes (length_file_block_of 0 (heading run))

cells_at : (run : Run) (map : List ℕ) (k : ℕ) → k < file_blocks_for (bytes_for run) → file_block_at (file_of run map) (suc k) ≡ file_block_of (suc k) (drop (content_bytes * k) map)
unfolding file_block_at file_of later_file_blocks
cells_at run map k h =
    let n = file_blocks_for (bytes_for run) in
    let next : file_block_bytes * suc k ≡ file_block_bytes + file_block_bytes * k = omega arith in
    ap (λ m. take file_block_bytes (drop m (file_of run map))) next
    ∙ ap (take file_block_bytes) (sym (drop-drop (file_block_bytes * k) file_block_bytes (file_of run map)))
    ∙ ap (λ l. take file_block_bytes (drop (file_block_bytes * k) l)) (drop_at (file_block_of 0 (heading run)) (later_file_blocks map n) file_block_bytes (length_file_block_of 0 (heading run)))
    ∙ first_joined_at n k (record { each = λ j b. length_file_block_of (suc j) (drop (content_bytes * j) map) }) h

module _ (run : Run) (map : List ℕ) (v : ValidRun run) (whole : length map ≡ cells_of run) where
  pub run_read : run_of (file_of run map) ≡ run
  unfolding file_of
  run_read = run_told run (later_file_blocks map (file_blocks_for (bytes_for run))) v

  last_file_block : {k : ℕ} → k < file_blocks_for (bytes_for run) → file_block_bytes * k + file_block_bytes ≤ file_length (bytes_for run)
  unfolding file_length
  last_file_block h = omega arith

  number_fits : {k : ℕ} → k < file_blocks_for (bytes_for run) → suc k < 4294967296
  unfolding file_blocks_for
  number_fits h = let few = cells_few v in let one = cell_bytes run in omega arith

  -- the cells that the first n blocks hold are the map's
  cells_read : (n : ℕ) → n ≤ file_blocks_for (bytes_for run) → take (length map) (bytes_in (file_of run map) n) ≡ take (content_bytes * n) map
  unfolding bytes_in first_joined
  cells_read zero h = take-nil (length map)
  cells_read (suc k) h =
      let saved = file_of run map in
      let before = bytes_in saved k in
      let cells = drop (content_bytes * k) map in
      let left = begun_file_block h in
      let one = cell_bytes run in
      let room : file_block_bytes * k + file_block_bytes ≤ length saved = rw (length_file run map) (last_file_block h) in
      let size = length_bytes_in saved k room in
      let same : before ≡ take (content_bytes * k) map = sym (take_all (length map) before (omega arith)) ∙ cells_read k (omega arith) in
      let held : contents (file_block_at saved (suc k)) ≡ filled cells = ap contents (cells_at run map k h) ∙ file_block_contents (suc k) cells in
      let rest : length map - content_bytes * k ≡ length cells = sym (length-drop (content_bytes * k) map) in
      let all : length map ≡ length before + (length map - content_bytes * k) = omega arith in
      let next : content_bytes * suc k ≡ content_bytes * k + content_bytes = omega arith in
      ap (λ m. take m (before ++ contents (file_block_at saved (suc k)))) all
      ∙ take-append-add before (contents (file_block_at saved (suc k))) (length map - content_bytes * k)
      ∙ ap (λ l. before ++ take (length map - content_bytes * k) l) held
      ∙ ap (λ m. before ++ take m (filled cells)) rest
      ∙ ap (λ l. before ++ l) (take_filled cells)
      ∙ ap (λ l. l ++ take content_bytes cells) same
      ∙ sym (ap (λ m. take m map) next ∙ take-add (content_bytes * k) content_bytes map)

  pub map_read : map_of (file_of run map) ≡ map
  unfolding map_of
  map_read =
      let saved = file_of run map in
      let n = file_blocks_for (bytes_for run) in
      let enough = enough_file_blocks (bytes_for run) in
      let one = cell_bytes run in
      ap (λ r. take (cells_of r) (bytes_in saved (file_blocks_for (bytes_for r)))) run_read
      ∙ ap (λ m. take m (bytes_in saved n)) (sym whole)
      ∙ cells_read n (le_refl n)
      ∙ take_all (content_bytes * n) map (omega arith)

  cells_pass : Bytes map → (n : ℕ) → n ≤ file_blocks_for (bytes_for run) → Passes (later_file_blocks_tests (bytes_for run) (file_of run map) n)
  unfolding later_file_blocks_tests
  cells_pass b zero h = no_tests
  cells_pass b (suc k) h = both (cells_pass b k (omega arith)) (rw (cells_at run map k h) (file_block_passes (suc k) (drop (content_bytes * k) map) (bytes_for run - content_bytes * k) (number_fits h) (up_to_drop (content_bytes * k) map b) (let one = cell_bytes run in simp length-drop (omega arith))))

  pub file_passes : Bytes map → Passes (file_tests (file_of run map))
  unfolding file_tests file_length
  file_passes b =
      let saved = file_of run map in
      let n = file_blocks_for (bytes_for run) in
      let long = length_file run map in
      let some_file_block : length saved ≡ 0 → ⊥ = λ e. omega arith in
      let whole_file_blocks : length saved % file_block_bytes ≡ 0 = omega arith in
      both
      (both
      (both
      (both
      (both (sound (agrees refl refl whole_file_blocks)) (sound (ne_eqb _ _ some_file_block)))
      (rw (head_at run map) (heading_passes run)))
      (rw run_read (valid_run_passes v)))
      (sound (agrees refl (ap (λ r. file_length (bytes_for r)) (sym run_read)) long)))
      (rw run_read (cells_pass b n (le_refl n)))
