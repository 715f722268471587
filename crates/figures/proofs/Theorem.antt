-- "Starred figures are covered by one statement over one table": `figures_hold`. The refusal that stands beside one of them is
-- covered too. Assumes nothing.
use native.Mathlib.Omega.{arith}
use mathlib.Core.Path.{◌≡◌, refl, sym, subst}
use mathlib.Core.Logic.{◌⊎◌, inl, inr}
use mathlib.Core.List.Memᴰ
use mathlib.Core.List.{List, [], ◌∷◌, Memᴰ}
use Rattle.scope.specs.Run.{lines_of, cells_of, cell_of, line_of, offset_of}
use Rattle.scope.specs.Hit.{instant, is_hit, hits_among, hits_from}
use Rattle.scope.specs.Refusal.{complaint, window_tests, line_tests, period_tests, weight_tests, phase_tests, source_tests, run_tests}
use Rattle.sources.specs.Entry.{entries_of, entry_tests, length_tests, list_tests, source_lists_tests}
use Rattle.map.specs.Sum.{summed}
use Rattle.map.specs.Promise.{map_tests, weight_at, made}
use Rattle.vectors.specs.Promise.{vectors_tests}
use Rattle.rooms.specs.Lists.{zeros}
use Rattle.fileblocks.specs.FileBlock.{four, four_at, weighted, check_of, filled, file_block_of}
use Rattle.saved.specs.File.{heading, first_joined, later_file_blocks, file_blocks_for, file_length, bytes_for, file_of}
use Rattle.figures.specs.Table.{Figure, Holds, hits_1_11, example, example_map, table}
use Rattle.figures.proofs.Rows.{vectors_row, is_pair, gcd_divisor, gcd_zero, hits_row, map_row, saved_row}

-- every row of a list holds
abbrev All : List Figure → Type 0
All [] = Unit {0}
All (figure ∷ figures) = Holds figure × All figures

-- each row, by computing its conditions: the tests, the divisions, the list of hits, the cells of the map, the bytes of the file
rows : All table
unfolding vectors_tests map_tests run_tests window_tests line_tests period_tests weight_tests phase_tests source_tests entry_tests length_tests list_tests source_lists_tests entries_of complaint hits_from hits_among made summed weight_at is_hit instant line_of offset_of cell_of cells_of lines_of file_length file_blocks_for bytes_for file_of heading later_file_blocks first_joined file_block_of filled zeros four four_at check_of weighted
rows = (
  vectors_row 7 3 4 _ (is_pair 7 3 4 _ _ _ _ refl refl tt tt tt tt tt tt tt refl),
  (
    vectors_row 7 5 4 _ (is_pair 7 5 4 _ _ _ _ refl refl tt tt tt tt tt tt tt refl),
    (
      vectors_row 11 4 6 _ (is_pair 11 4 6 _ _ _ _ refl refl tt tt tt tt tt tt tt refl),
      (
        hits_row 11 _ 6 1 11 hits_1_11 _ refl refl refl (λ T. refl) refl refl tt (λ T. refl),
        (
          vectors_row 4 1 4 _ (is_pair 4 1 4 _ _ _ _ refl refl tt tt tt tt tt tt tt refl),
          (
            vectors_row 4 1 6 _ refl,
            (
              vectors_row 12 6 6 _ (record { g = 6; is_gcd = gcd_divisor 6 12 refl; wide = omega arith; at_zero = refl; rises = refl }),
              (
                vectors_row 12 6 8 _ (is_pair 12 6 8 _ _ _ _ refl refl tt tt tt tt tt tt tt refl),
                (
                  vectors_row 9 0 4 _ (record { g = 9; is_gcd = gcd_zero 9; wide = omega arith; at_zero = refl; rises = refl }),
                  (
                    vectors_row 2 1 2 _ (is_pair 2 1 2 _ _ _ _ refl refl tt tt tt tt tt tt tt refl),
                    (
                      map_row example _ _ _ _ (record { says = refl; stores = refl }),
                      (
                        saved_row example example_map _ _ _ refl refl refl refl refl refl,
                        tt,
                      ),
                    ),
                  ),
                ),
              ),
            ),
          ),
        ),
      ),
    ),
  ),
)

each : (figures : List Figure) → All figures → (figure : Figure) → Memᴰ figure figures → Holds figure
each [] all figure m = absurd (Memᴰ.not-nil m)
each (first ∷ rest) all figure m = go (each rest all.1 figure) (Memᴰ.cases_cons m)
  where
    go : (Memᴰ figure rest → Holds figure) → (figure ≡ first) ⊎ Memᴰ figure rest → Holds figure
    go later (inl e) = subst Holds (sym e) all.0
    go later (inr n) = later n

-- Each figure of the table holds: the promise at the row's inputs admits an outcome exactly if it is the row's figure; of the
-- saved map: done exactly if the room has the row's length, and then with these checks.
pub figures_hold : (figure : Figure) → Memᴰ figure table → Holds figure
figures_hold = each table rows
