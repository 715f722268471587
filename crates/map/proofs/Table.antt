-- The tests of the map calls say what their table says, row by row. Assumes nothing.
use Prim.Native.Nat.{ℕ}
use mathlib.Core.List.{List}
use lib.ListN.{length}
use Rattle.scope.specs.declared.Run.{Run}
use Rattle.scope.specs.Run.{ceiling, cells_of}
use Rattle.scope.proofs.Rendered.{Renders, ◌next◌, one}
use Rattle.scope.proofs.Table.{unequal, run_renders}
use Rattle.sources.proofs.Table.{source_lists_renders}
use Rattle.map.specs.Promise.{map_tests}
use Rattle.map.specs.Table.{map_table}

-- "Map: 1, 2, 3, 10, then source by source 4 before 7, then 9", with 17, 18 for 2, and 22 after 7
pub map_renders : (run : Run) (periods weights phases map : List ℕ) → Renders (map_tests ceiling run periods weights phases map) (map_table run periods weights phases map)
unfolding map_tests
map_renders run periods weights phases map =
    run_renders run next
    source_lists_renders periods weights phases next
    one (unequal (length map) (cells_of run))
