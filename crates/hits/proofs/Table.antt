-- The tests of the first-hit call and of the listing say what their tables say, row by row. Assumes nothing.
use Prim.Native.Nat.{ℕ}
use mathlib.Core.List.{List}
use lib.ListN.{length}
use Rattle.scope.specs.declared.Run.{Run}
use Rattle.scope.specs.declared.Source.{Source}
use Rattle.scope.specs.declared.RunCell.{RunCell}
use Rattle.scope.specs.Run.{cells_of}
use Rattle.scope.proofs.Rendered.{Renders, ◌next◌, one}
use Rattle.scope.proofs.Table.{at_most, equal, run_renders, source_renders}
use Rattle.hits.specs.Promise.{first_hit_tests, listing_tests}
use Rattle.hits.specs.Table.{first_hit_table, listing_table}

-- "First hit and listing: 1, 2, 3, 4, 8", with 17, 18 for 2, and 22 after 4
pub first_hit_renders : (run : Run) (source : Source) (start : RunCell) → Renders (first_hit_tests run source start) (first_hit_table run source start)
unfolding first_hit_tests
first_hit_renders run source start = run_renders run next source_renders source next one (at_most (cells_of run) start.0)

-- and 9 for the listing
pub listing_renders : (run : Run) (source : Source) (start : RunCell) (room : List ℕ) → Renders (listing_tests run source start room) (listing_table run source start room)
unfolding listing_tests
listing_renders run source start room = first_hit_renders run source start next one (equal (length room) 0)
