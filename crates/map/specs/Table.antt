-- Document 01, "The refusal numbers", and request E5, as propositions: the rows of the two map calls, in their order.
use Rattle.std.specs.Prelude.{ℕ, ◌≢◌, List, [], ◌∷◌, ◌++◌, length}
use Rattle.scope.specs.declared.Run.{Run}
use Rattle.scope.specs.Run.{cells_of}
use Rattle.scope.specs.Table.{Row, ◌given◌, run_table}
use Rattle.sources.specs.Table.{source_lists_table}

-- "Map: 1, 2, 3, 10, then source by source 4 before 7, then 9", with 17, 18 for 2 (E1, E2) and 22 after 7 (E5).
abbrev pub map_table : Run → (periods weights phases map : List ℕ) → List Row
map_table run periods weights phases map =
    run_table run ++
    source_lists_table periods weights phases ++
    9 given (length map ≢ cells_of run) ∷ []
