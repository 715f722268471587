-- Theorems over the promises alone: "a saved map reads back as it was written, and an accepted file written again gives the same
-- bytes". Assumes nothing.
use Prim.Native.Nat.{ℕ}
use mathlib.Core.Path.{◌≡◌, refl, sym, ap, ◌∙◌}
use mathlib.Core.Logic.{◌↔◌}
use mathlib.Core.List.{List}
use lib.ListN.{length}
use Rattle.scope.specs.declared.Run.{Run}
use Rattle.scope.specs.Run.{ValidRun, cells_of}
use Rattle.std.specs.Prelude.{Result, Ok}
use Rattle.scope.specs.declared.Refusal.{Refusal}
use Rattle.scope.proofs.Judged.{sound, both, grant_stored, said_answered}
use Rattle.scope.proofs.Limits.{valid_run_passes, passes_first, passes_then}
use Rattle.fileblocks.specs.FileBlock.{Bytes}
use Rattle.saved.specs.File.{file_length, bytes_for, file_of, map_of, saving_tests, reading_tests}
use Rattle.saved.specs.Promise.{SavingPromise, ReadingPromise}
use Rattle.scope.proofs.Differs.{agrees, same}
use Rattle.saved.proofs.Promises.{accepted, grant_saving, grant_reading}
use Rattle.saved.proofs.Unique.{only_saving, only_reading}
use Rattle.saved.proofs.Saving.{run_read, map_read, file_passes}
use Rattle.saved.proofs.Accepting.{length_map_of, file_is}

-- a run within the limits, its map and a room of the file's length are saved
pub saves : {run : Run} {map room : List ℕ} → ValidRun run → length map ≡ cells_of run → length room ≡ file_length (bytes_for run) → SavingPromise run map room (Ok tt) (file_of run map)
unfolding saving_tests
saves v m l = grant_saving (both (both (valid_run_passes v) (sound (agrees refl refl m))) (sound (agrees refl refl l))) refl

-- what a saving that is done tells
record Stored (run : Run) (map file : List ℕ) : Type 0 where
  cells : length map ≡ cells_of run
  is : file ≡ file_of run map

stored_there : {run : Run} {map room file : List ℕ} → SavingPromise run map room (Ok tt) file → Stored run map file
unfolding saving_tests
stored_there {run} {map} {room} {file} p =
    let passes = (said_answered (saving_tests run map room) p.says).0 in
    record {
      cells = same _ _ (passes_then (passes_first passes));
      is = p.stores ∙ sym (grant_stored room (file_of run map) passes);
    }

-- "A saved map reads back as it was written": whatever the map holds, and whatever the lent room held
pub reads_back : {run : Run} {map room file into : List ℕ} → ValidRun run → Bytes map → SavingPromise run map room (Ok tt) file → length into ≡ length map → (answer : Result Run Refusal) (after : List ℕ) → ReadingPromise file into answer after ↔ (answer ≡ Ok run) × (after ≡ map)
unfolding reading_tests
reads_back {run} {map} {room} {file} {into} v b p l =
    let s = stored_there p in
    let same_run = run_read run map v s.cells in
    let fits = sound (agrees refl (ap cells_of (sym same_run)) (l ∙ s.cells)) in
    only_reading (rw s.is (grant_reading (both (file_passes run map v s.cells b) fits) (sym same_run) (sym (map_read run map v s.cells))))

-- "and an accepted file written again gives the same bytes": into any room of the file's length
pub writes_back : {run : Run} {file into map room : List ℕ} → Bytes file → ReadingPromise file into (Ok run) map → length room ≡ length file → (answer : Result (Unit {0}) Refusal) (after : List ℕ) → SavingPromise run map room answer after ↔ (answer ≡ Ok tt) × (after ≡ file)
unfolding reading_tests saving_tests
writes_back {run} {file} {into} {map} {room} b p l =
    let told = said_answered (reading_tests file into) p.says in
    let a = accepted (passes_first told.0) in
    let held : map ≡ map_of file = p.stores ∙ sym (grant_stored into (map_of file) told.0) in
    let tests = both (both a.limited (sound (agrees refl refl (length_map_of file a b)))) (sound (agrees refl refl (l ∙ a.long))) in
    only_saving (rw (told.1, held) (grant_saving tests (sym (file_is file a b))))
