-- Request E3, its refusals as propositions: the rows of the blanking call, in its order.
use Rattle.std.specs.Prelude.{ℕ, ◌/◌, ◌<◌, ◌≡◌, ◌⊎◌, ◌≢◌, List, [], ◌∷◌, ◌++◌, pos, neg_ℤ, length, ◌≤ℤ◌, ◌<ℤ◌}
use Rattle.scope.specs.declared.Run.{Run}
use Rattle.scope.specs.Run.{cells_of}
use Rattle.scope.specs.Table.{Row, ◌given◌, run_table}
use Rattle.blanking.specs.declared.Guard.{Guard}
use Rattle.blanking.specs.declared.Stretch.{Stretch}
use Rattle.blanking.specs.Stretches.{Blanked, MaximalStretches}

-- "20 guard outside the window or upside down".
abbrev pub BadGuard : (window : ℕ) → Guard → Type 0
BadGuard window guard =
    ((guard.lowest <ℤ neg_ℤ (pos (window / 2))) ⊎ (pos (window / 2) ≤ℤ guard.highest)) ⊎ (guard.highest <ℤ guard.lowest)

-- "21 exactly when the room holds fewer stretches than there are": two numbers each. There is one such list of stretches, for every
-- input (`stretches_unique`, `blanked_stretches`).
abbrev pub HoldsFewer : Run → (map : List ℕ) → (threshold : ℕ) → Guard → (room : List ℕ) → Type 0
HoldsFewer run map threshold guard room =
    (stretches : List Stretch) × MaximalStretches (Blanked run map threshold guard) stretches × (length room / 2 < length stretches)

-- "Refusals: 1, 17, 18, 3, then 19 threshold 0, 20 .., 9 for the map's length, 21".
abbrev pub blanking_table : Run → (map : List ℕ) → (threshold : ℕ) → Guard → (room : List ℕ) → List Row
blanking_table run map threshold guard room =
    run_table run ++
    19 given (threshold ≡ 0) ∷
    20 given BadGuard run.window guard ∷
    9 given (length map ≢ cells_of run) ∷
    21 given HoldsFewer run map threshold guard room ∷ []
