-- A file that passes the tests of reading is the file of the run and the map that it tells. Assumes nothing.
use Prim.Native.Nat.{ℕ, zero, suc, ◌+◌, ◌-◌, ◌*◌, ◌≤◌, ◌<◌, min}
use mathlib.Core.Path.{◌≡◌, sym, ap, ◌∙◌}
use mathlib.Core.List.{List, ◌++◌}
use native.Mathlib.Decide.{dec_le}
use native.Mathlib.Omega.{arith}
use lib.ListN.{length, take, drop, length-take, length-drop, take-append-drop}
use lib.Seq.{take_all, drop-drop}
use Rattle.scope.specs.Run.{cells_of}
use Rattle.scope.proofs.Judged.{Passes}
use Rattle.scope.proofs.Limits.{passes_first, passes_then}
use Rattle.fileblocks.specs.FileBlock.{file_block_bytes, content_bytes, Bytes, file_block_of, contents, file_block_tests}
use Rattle.saved.specs.File.{later_file_blocks, file_blocks_for, file_length, bytes_for, file_of, file_block_at, run_of, bytes_in, map_of, later_file_blocks_tests}
use Rattle.rooms.proofs.Lists.{take_take_min, take_drop_swap}
use Rattle.saved.proofs.Joined.{Even, first_joined_at, first_joined_is}
use Rattle.saved.proofs.Bytes.{bytes_file_block_at}
use Rattle.saved.proofs.Cells.{cell_bytes, enough_file_blocks, file_block_front, length_file_block_at, length_contents, length_bytes_in}
use Rattle.saved.proofs.Sealing.{file_block_is}
use Rattle.saved.proofs.Heading.{heading_is}
use Rattle.saved.proofs.Promises.{Accepted}

-- what all blocks pass, each passes
each_passes : (size : ℕ) (file : List ℕ) (n k : ℕ) → Passes (later_file_blocks_tests size file n) → k < n → Passes (file_block_tests (suc k) (size - content_bytes * k) (file_block_at file (suc k)))
unfolding later_file_blocks_tests
each_passes size file zero k p h = absurd (omega arith)
each_passes size file (suc n) k p h = go (dec_le (suc k) n) (each_passes size file n k (passes_first p))
  where
    go : Dec (k < n) → (k < n → Passes (file_block_tests (suc k) (size - content_bytes * k) (file_block_at file (suc k)))) → Passes (file_block_tests (suc k) (size - content_bytes * k) (file_block_at file (suc k)))
    go (yes l) ih = ih l
    go (no l) ih = let last : k ≡ n = omega arith in rw last (passes_then p)

module _ (file : List ℕ) (a : Accepted file) (b : Bytes file) where
  last_file_block : {k : ℕ} → k < file_blocks_for (bytes_for (run_of file)) → file_block_bytes * suc k + file_block_bytes ≤ length file
  unfolding file_length
  last_file_block h = let l = a.long in omega arith

  file_block_after : (k : ℕ) → take file_block_bytes (drop (file_block_bytes * k) (drop file_block_bytes file)) ≡ file_block_at file (suc k)
  unfolding file_block_at
  file_block_after k =
      let next : file_block_bytes + file_block_bytes * k ≡ file_block_bytes * suc k = omega arith in
      ap (take file_block_bytes) (drop-drop (file_block_bytes * k) file_block_bytes file ∙ ap (λ m. drop m file) next)

  even : Even (λ k. contents (file_block_at file (suc k))) content_bytes (file_blocks_for (bytes_for (run_of file)))
  even = record { each = λ k h. length_contents file (suc k) (last_file_block h) }

  -- block k + 1 holds the cells from 504·k on
  cells_told : (k : ℕ) → k < file_blocks_for (bytes_for (run_of file)) → file_block_at file (suc k) ≡ file_block_of (suc k) (drop (content_bytes * k) (map_of file))
  unfolding map_of bytes_in bytes_for
  cells_told k h =
      let size = bytes_for (run_of file) in
      let n = file_blocks_for size in
      let room = last_file_block h in
      let left = size - content_bytes * k in
      let rest = drop (content_bytes * k) (bytes_in file n) in
      let there : take content_bytes rest ≡ contents (file_block_at file (suc k)) = first_joined_at n k even h in
      let either : min left content_bytes ≡ min content_bytes left = omega arith in
      file_block_is (suc k) left (file_block_at file (suc k)) (length_file_block_at file (suc k) room) (bytes_file_block_at file (suc k) b) (each_passes size file n k a.celled h)
      ∙ ap (λ l. file_block_of (suc k) (take left l)) (sym there)
      ∙ ap (file_block_of (suc k)) (take_take_min left content_bytes rest ∙ ap (λ m. take m rest) either ∙ sym (take_take_min content_bytes left rest))
      ∙ file_block_front (suc k) (take left rest)
      ∙ ap (file_block_of (suc k)) (sym (take_drop_swap (content_bytes * k) size (bytes_in file n)))

  pub length_map_of : length (map_of file) ≡ cells_of (run_of file)
  unfolding map_of file_length
  length_map_of =
      let n = file_blocks_for (bytes_for (run_of file)) in
      let l = a.long in
      let enough = enough_file_blocks (bytes_for (run_of file)) in
      let s = length_bytes_in file n (omega arith) in
      let one = cell_bytes (run_of file) in
      simp length-take (omega arith)

  pub file_is : file_of (run_of file) (map_of file) ≡ file
  unfolding file_of later_file_blocks file_block_at file_length
  file_is =
      let n = file_blocks_for (bytes_for (run_of file)) in
      let l = a.long in
      let some : file_block_bytes ≤ length file = omega arith in
      let cells : take (file_block_bytes * n) (drop file_block_bytes file) ≡ later_file_blocks (map_of file) n = first_joined_is file_block_bytes (drop file_block_bytes file) n (λ k h. file_block_after k ∙ cells_told k h) in
      let all : take (file_block_bytes * n) (drop file_block_bytes file) ≡ drop file_block_bytes file = take_all (file_block_bytes * n) (drop file_block_bytes file) (simp length-drop (omega arith)) in
      ap (λ x. x ++ later_file_blocks (map_of file) n) (sym (heading_is file some b a.headed))
      ∙ ap (λ x. file_block_at file 0 ++ x) (sym cells ∙ all)
      ∙ take-append-drop file_block_bytes file
