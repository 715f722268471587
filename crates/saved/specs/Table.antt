-- Document 01, "The refusal numbers", as propositions: the rows that saving and reading are judged by, in each call's order.
use Rattle.std.specs.Prelude.{ℕ, zero, suc, ◌-◌, ◌*◌, ◌%◌, ◌≡◌, ◌⊎◌, ◌≢◌, List, [], ◌∷◌, ◌++◌, length, get_or}
use Rattle.scope.specs.declared.Run.{Run}
use Rattle.scope.specs.Run.{cells_of}
use Rattle.scope.specs.Table.{Row, ◌given◌, run_table}
use Rattle.fileblocks.specs.FileBlock.{file_block_bytes, content_bytes, check_at}
use Rattle.fileblocks.specs.Table.{NotZero, BadCheck, file_block_table}
use Rattle.saved.specs.File.{file_blocks_for, file_length, bytes_for, file_block_at, run_of}

-- "Saving: 1, 2, 3, 9", with 17, 18 for 2 (E1, E2). "9: .. map or file room not of the exact length".
abbrev pub saving_table : Run → (map room : List ℕ) → List Row
saving_table run map room =
    run_table run ++
    9 given ((length map ≢ cells_of run) ⊎ (length room ≢ file_length (bytes_for run))) ∷ []

-- "15: version, spare byte or filling not as laid down", of block 0: "byte 4 = 1 (version), 5-7 zero, .. 24-507 zero".
abbrev pub BadHeading : List ℕ → Type 0
BadHeading block = (NotZero block 24 check_at ⊎ (get_or block 4 0 ≢ 1)) ⊎ NotZero block 5 8

-- "the other blocks in order, 14 before 15 in each": blocks 1 to n of a file with so many bytes in them, 504 in each.
abbrev pub later_file_blocks_table : ℕ → List ℕ → ℕ → List Row
later_file_blocks_table size file zero = []
later_file_blocks_table size file (suc k) = later_file_blocks_table size file k ++ file_block_table (suc k) (size - content_bytes * k) (file_block_at file (suc k))

-- "Reading: 13 for whole blocks, then block 0 for 14 and 15, then 1, 2, 3, 13 for the count, then the other blocks in order, 14
-- before 15 in each, then 9", with 17, 18 for 2 (E1, E2).
abbrev pub reading_table : (file map : List ℕ) → List Row
reading_table file map =
    13 given ((length file % file_block_bytes ≢ 0) ⊎ (length file ≡ 0)) ∷
    14 given BadCheck 0 (file_block_at file 0) ∷
    15 given BadHeading (file_block_at file 0) ∷
    run_table (run_of file) ++
    13 given (length file ≢ file_length (bytes_for (run_of file))) ∷
    later_file_blocks_table (bytes_for (run_of file)) file (file_blocks_for (bytes_for (run_of file))) ++
    9 given (length map ≢ cells_of (run_of file)) ∷ []
