-- The tests of saving and of reading say what their tables say, row by row. Assumes nothing.
use Prim.Native.Nat.{ℕ, zero, suc, ◌-◌, ◌*◌, ◌%◌}
use mathlib.Core.List.{List, [], ◌∷◌}
use lib.ListN.{length, get_or}
use Rattle.scope.specs.declared.Run.{Run}
use Rattle.scope.specs.Run.{cells_of}
use Rattle.scope.specs.Table.{◌given◌}
use Rattle.scope.proofs.Rendered.{Renders, ◌next◌, one, either, then_two, then_three, no_rows}
use Rattle.scope.proofs.Table.{equal, unequal, run_renders}
use Rattle.fileblocks.specs.FileBlock.{file_block_bytes, content_at, content_bytes, contents, file_block_tests}
use Rattle.fileblocks.specs.Table.{BadCheck}
use Rattle.fileblocks.proofs.Table.{not_zero, not_sealed, file_block_renders}
use Rattle.saved.specs.File.{heading_bytes, file_blocks_for, file_length, bytes_for, file_block_at, run_of, saving_tests, heading_tests, later_file_blocks_tests, file_tests, reading_tests}
use Rattle.saved.specs.Table.{saving_table, BadHeading, later_file_blocks_table, reading_table}

-- "Saving: 1, 2, 3, 9", with 17, 18 for 2
pub saving_renders : (run : Run) (map room : List ℕ) → Renders (saving_tests run map room) (saving_table run map room)
unfolding saving_tests
saving_renders run map room =
    then_two (run_renders run next either (one (unequal (length map) (cells_of run))) (one (unequal (length room) (file_length (bytes_for run)))))

heading_renders : (block : List ℕ) → Renders (heading_tests block) (14 given BadCheck 0 block ∷ 15 given BadHeading block ∷ [])
unfolding heading_tests file_block_tests contents
heading_renders block =
    then_three (one (not_sealed 0 block) next either (either (one (not_zero block content_at heading_bytes content_bytes)) (one (unequal (get_or block 4 0) 1))) (one (not_zero block 5 0 3)))

later_file_blocks_render : (size : ℕ) (file : List ℕ) (n : ℕ) → Renders (later_file_blocks_tests size file n) (later_file_blocks_table size file n)
unfolding later_file_blocks_tests
later_file_blocks_render size file zero = no_rows
later_file_blocks_render size file (suc k) =
    later_file_blocks_render size file k next file_block_renders (suc k) (size - content_bytes * k) (file_block_at file (suc k))

-- "Reading: 13 for whole blocks, then block 0 for 14 and 15, then 1, 2, 3, 13 for the count, then the other blocks .., then 9",
-- with 17, 18 for 2
pub reading_renders : (file map : List ℕ) → Renders (reading_tests file map) (reading_table file map)
unfolding reading_tests file_tests
reading_renders file map =
    let size = bytes_for (run_of file) in
    either (one (unequal (length file % file_block_bytes) 0)) (one (equal (length file) 0)) next
    heading_renders (file_block_at file 0) next
    run_renders (run_of file) next
    one (unequal (length file) (file_length size)) next
    later_file_blocks_render size file (file_blocks_for size) next
    one (unequal (length map) (cells_of (run_of file)))
