-- Block 0: its lengths and bytes, what it tells, and that it passes its tests exactly if it is laid down for the run that it tells. Assumes nothing.
use Prim.Native.Nat.{ℕ, ◌+◌, ◌≤◌}
use mathlib.Core.Path.{◌≡◌, refl, sym, ap, ◌∙◌}
use mathlib.Core.Bool.{true, not}
use mathlib.Core.List.{List, [], ◌∷◌, ◌++◌}
use native.Mathlib.Nat.{le_of_eq}
use native.Mathlib.Omega.{arith}
use borrow.Author.Tests.{not-false}
use lib.ListN.{length, get_or, take, drop, length-append, length-take, length-drop}
use lib.Seq.{get_or-take, drop-cons, take-add, take-take, drop-drop}
use Rattle.scope.specs.declared.Run.{Run}
use Rattle.scope.specs.Run.{ValidRun}
use Rattle.scope.proofs.Judged.{Passes, sound, both}
use Rattle.scope.proofs.Limits.{passes_first, passes_then, passes_when}
use Rattle.fileblocks.specs.FileBlock.{file_block_bytes, content_bytes, Bytes, four, four_at, filled, file_block_of, all_zero}
use Rattle.saved.specs.File.{heading, file_block_at, run_of, heading_tests}
use Rattle.rooms.specs.Lists.{zeros}
use Rattle.rooms.proofs.Lists.{take_drop_take, up_to_append}
use Rattle.fileblocks.proofs.Filling.{all_zero_zeros}
use Rattle.saved.proofs.Bytes.{bytes_four, bytes_file_block_at}
use Rattle.fileblocks.proofs.FileBlock.{length_four}
use Rattle.saved.proofs.Cells.{contents_at, length_file_block_at}
use Rattle.saved.proofs.Sealing.{file_block_passes, file_block_is, four_back}
use Rattle.scope.proofs.Differs.{agrees, same}

pub length_heading : (run : Run) → length (heading run) ≡ 20
unfolding heading
length_heading run = simp (length-append, length_four)

bytes_heading : (run : Run) → Bytes (heading run)
unfolding heading four
bytes_heading run =
    up_to_append (four 1) (four run.window ++ four run.interval ++ four run.first ++ four run.last) (bytes_four 1)
    (up_to_append (four run.window ++ four run.interval ++ four run.first) (four run.last)
    (up_to_append (four run.window ++ four run.interval) (four run.first)
    (up_to_append (four run.window) (four run.interval) (bytes_four _) (bytes_four _)) (bytes_four _)) (bytes_four _))

-- the run is told, whatever follows
pub run_told : (run : Run) (rest : List ℕ) → ValidRun run → run_of (file_block_of 0 (heading run) ++ rest) ≡ run
unfolding run_of file_block_of filled zeros heading four four_at
run_told run rest v =
    let file = file_block_of 0 (heading run) ++ rest in
    let w : four_at file 8 ≡ run.window = omega arith in
    let t : four_at file 12 ≡ run.interval = omega arith in
    let f : four_at file 16 ≡ run.first = omega arith in
    let l : four_at file 20 ≡ run.last = omega arith in
    λ i. record { window = w i; interval = t i; first = f i; last = l i }

version_there : (run : Run) → get_or (file_block_of 0 (heading run)) 4 0 ≡ 1
unfolding file_block_of filled zeros heading four
version_there run = refl

spare_there : (run : Run) → all_zero (take 3 (drop 5 (file_block_of 0 (heading run)))) ≡ true
unfolding file_block_of filled zeros heading four all_zero
spare_there run = refl

pub heading_passes : (run : Run) → Passes (heading_tests (file_block_of 0 (heading run)))
unfolding heading_tests
heading_passes run =
    both
    (both (file_block_passes 0 (heading run) 20 (omega arith) (bytes_heading run) (le_of_eq (length_heading run))) (sound (agrees refl refl (version_there run))))
    (sound (ap not (spare_there run)))

-- the version and the spare bytes of a block that passes, and the numbers behind them
module _ (file : List ℕ) (l : file_block_bytes ≤ length file) (b : Bytes file) (p : Passes (heading_tests (file_block_at file 0))) where
  spare_told : take 4 (drop 4 file) ≡ 1 ∷ 0 ∷ 0 ∷ 0 ∷ []
  unfolding heading_tests file_block_at zeros
  spare_told =
      let version : get_or file 4 0 ≡ 1 = sym (get_or-take file_block_bytes file 4 0 (omega arith)) ∙ same _ _ (passes_then (passes_first p)) in
      let three : length (take 3 (drop 5 (take file_block_bytes file))) ≡ 3 = simp (length-take, length-drop) (omega arith) in
      let spare : take 3 (drop 5 file) ≡ 0 ∷ 0 ∷ 0 ∷ [] =
      sym (take_drop_take 3 5 file_block_bytes file (omega arith)) ∙ all_zero_zeros _ (not-false _ (passes_when (passes_then p))) ∙ ap zeros three in
      ap (take 4) (drop-cons file 4 0 (omega arith)) ∙ rw (version, spare)

  number_told : (k : ℕ) → k ≤ 16 → take 4 (drop k (drop 4 file)) ≡ four (four_at file (4 + k))
  number_told k h = ap (take 4) (drop-drop k 4 file) ∙ four_back file (4 + k) b (omega arith)

  twenty : take 20 (drop 4 file) ≡ heading (run_of file)
  unfolding heading run_of
  twenty =
      take-add 16 4 (drop 4 file)
      ∙ ap (λ x. x ++ take 4 (drop 16 (drop 4 file))) (take-add 12 4 (drop 4 file))
      ∙ ap (λ x. x ++ take 4 (drop 12 (drop 4 file)) ++ take 4 (drop 16 (drop 4 file))) (take-add 8 4 (drop 4 file))
      ∙ ap (λ x. x ++ take 4 (drop 8 (drop 4 file)) ++ take 4 (drop 12 (drop 4 file)) ++ take 4 (drop 16 (drop 4 file))) (take-add 4 4 (drop 4 file))
      ∙ rw (spare_told, number_told 4 (omega arith), number_told 8 (omega arith), number_told 12 (omega arith), number_told 16 (omega arith))

  pub heading_is : file_block_at file 0 ≡ file_block_of 0 (heading (run_of file))
  unfolding heading_tests
  heading_is =
      file_block_is 0 20 (file_block_at file 0) (length_file_block_at file 0 l) (bytes_file_block_at file 0 b) (passes_first (passes_first p))
      ∙ ap (file_block_of 0) (ap (take 20) (contents_at file 0) ∙ take-take 20 content_bytes (drop 4 file) (omega arith) ∙ twenty)
