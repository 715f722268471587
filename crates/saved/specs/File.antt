-- Document 01, "Saved map": the whole file, what it stands for, and when saving and reading are refused.
use Rattle.std.specs.Prelude.{ℕ, zero, suc, ◌+◌, ◌-◌, ◌*◌, ◌/◌, ◌%◌, not, List, [], ◌∷◌, ◌++◌, eqb, length, get_or, take, drop}
use Rattle.scope.specs.declared.Run.{Run}
use Rattle.scope.specs.Run.{run_with, cells_of}
use Rattle.scope.specs.Refusal.{Tests, ◌when◌, ◌and_then◌, nothing, run_tests}
use Rattle.scope.specs.declared.Reason.TheVariants.{Room, FileBlocks, Layout}
use Rattle.fileblocks.specs.FileBlock.{file_block_bytes, content_bytes, four, four_at, file_block_of, contents, all_zero, file_block_tests}

-- "Block 0: byte 4 = 1 (version), 5-7 zero, then four 32-bit numbers at 8, 12, 16, 20: window, interval, first line, last line".
unfoldable pub heading : Run → List ℕ
heading run = 1 ∷ 0 ∷ 0 ∷ 0 ∷ four run.window ++ four run.interval ++ four run.first ++ four run.last

-- How many bytes that is.
abbrev pub heading_bytes : ℕ
heading_bytes = 20

-- The first n of a row of lists, joined.
unfoldable pub first_joined : (ℕ → List ℕ) → ℕ → List ℕ
first_joined lists zero = []
first_joined lists (suc k) = first_joined lists k ++ lists k

-- "Later blocks: 504 .. each in bytes 4-507, in cell order": blocks 1 to n, of the bytes of all cells.
unfoldable pub later_file_blocks : List ℕ → ℕ → List ℕ
later_file_blocks bytes = first_joined λ k. file_block_of (suc k) (drop (content_bytes * k) bytes)

-- How many of these so many bytes need: one for each 504 begun.
unfoldable pub file_blocks_for : ℕ → ℕ
file_blocks_for size = (size + (content_bytes - 1)) / content_bytes

-- How long the file then is, with block 0.
unfoldable pub file_length : ℕ → ℕ
file_length size = file_block_bytes * (1 + file_blocks_for size)

-- "504 cells each": a cell is one byte. How many bytes a run's cells are.
unfoldable pub bytes_for : Run → ℕ
bytes_for run = cells_of run

-- The file of a run and its map. "Nothing follows."
unfoldable pub file_of : Run → List ℕ → List ℕ
file_of run map = file_block_of 0 (heading run) ++ later_file_blocks map (file_blocks_for (bytes_for run))

-- Block k of a file.
unfoldable pub file_block_at : List ℕ → ℕ → List ℕ
file_block_at file k = take file_block_bytes (drop (file_block_bytes * k) file)

-- The run that a file's block 0 tells.
unfoldable pub run_of : List ℕ → Run
run_of file = run_with (four_at file 8) (four_at file 12) (four_at file 16) (four_at file 20)

-- What blocks 1 to n of a file hold.
unfoldable pub bytes_in : List ℕ → ℕ → List ℕ
bytes_in file = first_joined λ k. contents (file_block_at file (suc k))

-- The map that a file tells: the cells of its run.
unfoldable pub map_of : List ℕ → List ℕ
map_of file = take (cells_of (run_of file)) (bytes_in file (file_blocks_for (bytes_for (run_of file))))

-- "Saving: 1, 2, 3, 9", with 17, 18 for 2 (E1, E2). "9: .. map or file room not of the exact length".
unfoldable pub saving_tests : Run → List ℕ → List ℕ → Tests
saving_tests run map file =
    run_tests run and_then
    Room when not (eqb (length map) (cells_of run)) and_then
    Room when not (eqb (length file) (file_length (bytes_for run)))

-- "block 0 for 14 and 15": its number and check; bytes 24-507 zero, version 1, bytes 5-7 zero.
unfoldable pub heading_tests : List ℕ → Tests
heading_tests block =
    file_block_tests 0 heading_bytes block and_then
    Layout when not (eqb (get_or block 4 0) 1) and_then
    Layout when not (all_zero (take 3 (drop 5 block)))

-- "the other blocks in order, 14 before 15 in each": blocks 1 to n of a file with so many bytes in them.
unfoldable pub later_file_blocks_tests : ℕ → List ℕ → ℕ → Tests
later_file_blocks_tests size file zero = nothing
later_file_blocks_tests size file (suc k) = later_file_blocks_tests size file k and_then file_block_tests (suc k) (size - content_bytes * k) (file_block_at file (suc k))

-- "Reading: 13 for whole blocks, then block 0 for 14 and 15, then 1, 2, 3, 13 for the count, then the other blocks",
-- with 17, 18 for 2 (E1, E2).
unfoldable pub file_tests : List ℕ → Tests
file_tests file =
    let run = run_of file in
    let size = bytes_for run in
    FileBlocks when not (eqb (length file % file_block_bytes) 0) and_then
    FileBlocks when eqb (length file) 0 and_then
    heading_tests (file_block_at file 0) and_then
    run_tests run and_then
    FileBlocks when not (eqb (length file) (file_length size)) and_then
    later_file_blocks_tests size file (file_blocks_for size)

-- "then 9".
unfoldable pub reading_tests : List ℕ → List ℕ → Tests
reading_tests file map =
    file_tests file and_then
    Room when not (eqb (length map) (cells_of (run_of file)))
