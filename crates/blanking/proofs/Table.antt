-- The tests of the blanking call say what its table says, row by row. Assumes nothing.
use Prim.Native.Nat.{ℕ, ◌/◌, ◌<◌}
use mathlib.Core.Path.{◌≡◌, subst}
use mathlib.Core.Logic.{◌↔◌}
use mathlib.Core.Bool.{true}
use mathlib.Core.List.{List, [], ◌∷◌}
use lib.Dec.{ltb}
use lib.IntN.{pos, neg_ℤ}
use lib.ListN.{length}
use borrow.Author.Tests.{ltb-true, lt-ltb}
use Rattle.signed.proofs.Parts.{lt_z_order, le_z_order}
use Rattle.scope.specs.declared.Run.{Run}
use Rattle.scope.specs.Run.{cells_of}
use Rattle.scope.specs.Table.{◌given◌}
use Rattle.scope.proofs.Rendered.{Renders, ◌next◌, one, either}
use Rattle.scope.proofs.Table.{equal, unequal, run_renders}
use Rattle.blanking.specs.declared.Guard.{Guard}
use Rattle.blanking.specs.declared.Stretch.{Stretch}
use Rattle.blanking.specs.Stretches.{Blanked, MaximalStretches}
use Rattle.blanking.specs.Promise.{guard_tests, asked_tests, blanking_tests}
use Rattle.blanking.specs.Table.{BadGuard, HoldsFewer, blanking_table}
use Rattle.blanking.proofs.Stretches.{stretches_unique}

guard_renders : (window : ℕ) (guard : Guard) → Renders (guard_tests window guard) (20 given BadGuard window guard ∷ [])
unfolding guard_tests
guard_renders window guard =
    let half = pos (window / 2) in
    either (either (one (lt_z_order guard.lowest (neg_ℤ half))) (one (le_z_order half guard.highest))) (one (lt_z_order guard.highest guard.lowest))

module _ (run : Run) (map : List ℕ) (threshold : ℕ) (guard : Guard) (room : List ℕ) {stretches : List Stretch} (are : MaximalStretches (Blanked run map threshold guard) stretches) where
  -- "fewer stretches than there are", whichever list has them
  fewer : (ltb (length room / 2) (length stretches) ≡ true) ↔ HoldsFewer run map threshold guard room
  fewer = (
    λ e. (stretches, are, ltb-true (length room / 2) (length stretches) e),
    λ h. lt-ltb (length room / 2) (length stretches) (subst (λ l. length room / 2 < length l) (stretches_unique h.1 are) h.2),
  )

  -- "1, 17, 18, 3, then 19 threshold 0, 20 .., 9 for the map's length, 21"
  pub blanking_renders : Renders (blanking_tests run map threshold guard room stretches) (blanking_table run map threshold guard room)
  unfolding blanking_tests asked_tests
  blanking_renders =
      run_renders run next
      one (equal threshold 0) next
      guard_renders run.window guard next
      one (unequal (length map) (cells_of run)) next
      one fewer
