-- Request E3, "Blanking list": what the call replies and stores, for every input.
use Rattle.std.specs.Prelude.{ℕ, ◌/◌, ◌≡◌, not, List, [], ◌∷◌, ◌++◌, ltb, eqb, pos, neg_ℤ, length, drop, Result, Ok, Err}
use Rattle.std.specs.Int.Signed.{lt_z, le_z}
use Rattle.scope.specs.declared.Run.{Run}
use Rattle.scope.specs.Run.{cells_of}
use Rattle.scope.specs.declared.Refusal.{Refusal}
use Rattle.scope.specs.Refusal.{Tests, ◌when◌, ◌and_then◌, number, complaint, run_tests}
use Rattle.scope.specs.declared.Reason.TheVariants.{Room, Threshold, Guard as Guard·reason, StretchRoom}
use Rattle.scope.specs.Reply.{Said, refused, answered, reply, stored}
use Rattle.blanking.specs.declared.Guard.{Guard}
use Rattle.blanking.specs.declared.Stretch.{Stretch}
use Rattle.blanking.specs.Stretches.{Blanked, MaximalStretches}

-- "20 guard outside the window or upside down": the lowest offset left of -I/2, the highest not left of I/2 (01: "-I/2 ≤ i < I/2"), or
-- the highest below the lowest.
unfoldable pub guard_tests : ℕ → Guard → Tests
guard_tests window guard =
    Guard·reason when lt_z guard.lowest (neg_ℤ (pos (window / 2))) and_then
    Guard·reason when le_z (pos (window / 2)) guard.highest and_then
    Guard·reason when lt_z guard.highest guard.lowest

-- "1, 17, 18, 3, then 19 threshold 0, 20 guard outside the window or upside down, 9 for the map's length".
unfoldable pub asked_tests : Run → (map : List ℕ) → (threshold : ℕ) → Guard → Tests
asked_tests run map threshold guard =
    run_tests run and_then
    Threshold when eqb threshold 0 and_then
    guard_tests run.window guard and_then
    Room when not (eqb (length map) (cells_of run))

-- The same, then "21 exactly when the room holds fewer stretches than there are": "two 32-bit numbers each".
unfoldable pub blanking_tests : Run → (map : List ℕ) → (threshold : ℕ) → Guard → (room : List ℕ) → (stretches : List Stretch) → Tests
blanking_tests run map threshold guard room stretches =
    asked_tests run map threshold guard and_then
    StretchRoom when ltb (length room / 2) (length stretches)

-- "first and last line as two 32-bit numbers each".
unfoldable pub numbers_of : List Stretch → List ℕ
numbers_of [] = []
numbers_of (stretch ∷ stretches) = stretch.first ∷ stretch.last ∷ numbers_of stretches

-- The room after they are written, where it holds them; "room past what is written is untouched" (01).
unfoldable pub written : List Stretch → List ℕ → List ℕ
written stretches room = numbers_of stretches ++ drop (length (numbers_of stretches)) room

-- What a reply of the blanking call says: the count, or a refusal's number and place.
abbrev pub says_blanking : Result ℕ Refusal → Said ℕ
says_blanking (Ok count) = answered count
says_blanking (Err refusal) = refused (number refusal.reason) refusal.place

-- The promise of the blanking call: "it writes the maximal stretches of consecutive lines that each have a guard cell at or above the
-- threshold, .. and answers their count". The map is lent to be read alone. There is one such list, for every input
-- (`stretches_unique`, `blanked_stretches`).
pub record BlankingPromise (run : Run) (map : List ℕ) (threshold : ℕ) (guard : Guard) (room : List ℕ) (answer : Result ℕ Refusal) (after : List ℕ) : Type 0 where
  pub stretches : List Stretch
  pub are : MaximalStretches (Blanked run map threshold guard) stretches
  pub says : says_blanking answer ≡ reply (complaint (blanking_tests run map threshold guard room stretches)) (length stretches)
  pub stores : after ≡ stored (complaint (blanking_tests run map threshold guard room stretches)) room (written stretches room)
