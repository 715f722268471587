-- Document 01, "The refusal numbers", and request E5, as propositions: the rows of the first-hit call and of the listing, in their order.
use Rattle.std.specs.Prelude.{ℕ, ◌≤◌, ◌≡◌, List, [], ◌∷◌, ◌++◌, length}
use Rattle.scope.specs.declared.Run.{Run}
use Rattle.scope.specs.declared.Source.{Source}
use Rattle.scope.specs.declared.RunCell.{RunCell}
use Rattle.scope.specs.Run.{cells_of}
use Rattle.scope.specs.Table.{Row, ◌given◌, BadPeriod, BadPhase, run_table}

-- "First hit and listing: 1, 2, 3, 4, 8, 9 (no weight there)", with 17, 18 for 2 (E1, E2) and "22 phase not below period, .. after 4
-- where no weight is given" (E5). A first-hit call has no room.
abbrev pub first_hit_table : Run → Source → RunCell → List Row
first_hit_table run source start =
    run_table run ++
    4 given BadPeriod source.period ∷
    22 given BadPhase source ∷
    8 given (cells_of run ≤ start.0) ∷ []

-- The same with 9.
abbrev pub listing_table : Run → Source → RunCell → List ℕ → List Row
listing_table run source start room =
    first_hit_table run source start ++
    9 given (length room ≡ 0) ∷ []
