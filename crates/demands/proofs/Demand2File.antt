-- Demand 2: "A saved map reads back as it was written, and an accepted file written again gives the same bytes."
-- Assumes nothing.
use Rattle.std.specs.Prelude.{Result, Ok}
use Rattle.scope.specs.declared.Refusal.{Refusal}
use Prim.Native.Nat.{ℕ}
use mathlib.Core.Path.{◌≡◌, refl}
use mathlib.Core.Logic.{◌↔◌}
use mathlib.Core.List.{List}
use lib.ListN.{length, replicate, length-replicate}
use Rattle.scope.specs.declared.Run.{Run}
use Rattle.scope.specs.Run.{ValidRun, ceiling, UpTo, cells_of}
use Rattle.fileblocks.specs.FileBlock.{Bytes}
use Rattle.saved.specs.File.{file_length, bytes_for, file_of}
use Rattle.saved.specs.Promise.{SavingPromise, ReadingPromise}
use Rattle.saved.proofs.Unique.{only_saving}
use Rattle.saved.proofs.RoundTrips.{saves, reads_back, writes_back}

-- "A saved map": for every valid run, map of its length and room of the file's length, saving says "saved" and no other reply,
-- and the room then holds the run's file and nothing else.
pub map_is_saved : (run : Run) (map room : List ℕ) → ValidRun run → length map ≡ cells_of run → length room ≡ file_length (bytes_for run) → (answer : Result (Unit {0}) Refusal) (after : List ℕ) → SavingPromise run map room answer after ↔ (answer ≡ Ok tt) × (after ≡ file_of run map)
map_is_saved run map room v m l = only_saving (saves v m l)

-- "reads back as it was written": for every valid run, map, and file that saving them admits, and every lent map as long,
-- reading the file answers with the run, is not refused, and fills in the map that was saved.
pub saved_reads_back : (run : Run) (map room file : List ℕ) → ValidRun run → UpTo ceiling map → SavingPromise run map room (Ok tt) file → (lent : List ℕ) → length lent ≡ length map → (answer : Result Run Refusal) (after : List ℕ) → ReadingPromise file lent answer after ↔ (answer ≡ Ok run) × (after ≡ map)
saved_reads_back run map room file v b p lent l = reads_back v b p l

-- "an accepted file written again gives the same bytes": for every file that reading admits with a run and a map, and every
-- room as long as the file, saving that run and map says "saved", is not refused, and leaves the file in the room.
pub accepted_writes_back : (file lent : List ℕ) (run : Run) (map : List ℕ) → Bytes file → ReadingPromise file lent (Ok run) map → (room : List ℕ) → length room ≡ length file → (answer : Result (Unit {0}) Refusal) (after : List ℕ) → SavingPromise run map room answer after ↔ (answer ≡ Ok tt) × (after ≡ file)
accepted_writes_back file lent run map b p room l = writes_back b p l

-- There are such files: that of every valid run and map of its length is accepted.
pub saved_is_accepted : (run : Run) (map lent : List ℕ) → ValidRun run → UpTo ceiling map → length map ≡ cells_of run → length lent ≡ length map → ReadingPromise (file_of run map) lent (Ok run) map
saved_is_accepted run map lent v b m l =
    let size = file_length (bytes_for run) in
    let saved = saves {room = replicate size 0} v m (length-replicate {A = ℕ} size 0) in
    (reads_back v b saved l (Ok run) map).1 (refl, refl)
