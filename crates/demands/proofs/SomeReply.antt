-- For every input of each of the ten operations some reply fits the promise, so that the theorems over the promises are not empty.
-- (That the program's own reply fits is what the check of each operation says.) Assumes nothing.
use Rattle.std.specs.Prelude.{Result, Option}
use Rattle.scope.specs.declared.Refusal.{Refusal}
use Prim.Native.Nat.{ℕ}
use mathlib.Core.List.{List}
use Rattle.scope.specs.declared.Run.{Run}
use Rattle.scope.specs.declared.Source.{Source}
use Rattle.scope.specs.declared.RunCell.{RunCell}
use Rattle.scope.specs.Run.{ceiling}
use Rattle.vectors.specs.declared.Steps.{Steps}
use Rattle.vectors.specs.Promise.{VectorsPromise}
use Rattle.vectors.proofs.Unique as Vectors
use Rattle.hits.specs.declared.Listing.{Listing}
use Rattle.hits.specs.Promise.{FirstHitPromise, ListingPromise}
use Rattle.hits.proofs.Unique as Hits
use Rattle.map.specs.Promise.{MakingPromise, AddingPromise}
use Rattle.map.proofs.Unique as Map
use Rattle.blanking.specs.declared.Guard.{Guard}
use Rattle.blanking.specs.Promise.{BlankingPromise}
use Rattle.blanking.proofs.Unique as Blanked
use Rattle.saved.specs.Promise.{SavingPromise, ReadingPromise}
use Rattle.saved.proofs.Unique as Saved
use Rattle.text.specs.declared.Input.{Input}
use Rattle.text.specs.Promise.{TextPromise}
use Rattle.text.proofs.Unique as Text
use Rattle.report.specs.declared.Output.{Output}
use Rattle.report.specs.Promise.{ReportPromise}
use Rattle.report.proofs.Unique as Report

-- Some reply fits the vectors call.
pub vectors_exists : (p r I : ℕ) → (steps : Steps) × VectorsPromise p r I steps
vectors_exists = Vectors.vectors_exists

-- ---- first hit and listing

-- Some reply fits the first-hit call.
pub first_hit_exists : (run : Run) (source : Source) (start : RunCell) → (r : Result (Option RunCell) Refusal) × FirstHitPromise run source start r
first_hit_exists = Hits.first_hit_exists

-- Some reply and some room after it fit the listing call.
pub listing_exists : (run : Run) (source : Source) (start : RunCell) (room : List ℕ) → (r : Result Listing Refusal) × (after : List ℕ) × ListingPromise run source start room r after
listing_exists = Hits.listing_exists

-- ---- map, blanking list, saving and reading: the call is refused, or it is done

-- Some reply and some map after it fit the plain map call.
pub making_exists : (run : Run) (periods weights phases map : List ℕ) → (answer : Result (Unit {0}) Refusal) × (after : List ℕ) × MakingPromise run periods weights phases map answer after
making_exists run periods weights phases map = Map.call_exists ceiling run periods weights phases map _

-- Some reply and some map after it fit the adding call.
pub adding_exists : (run : Run) (periods weights phases map : List ℕ) → (answer : Result (Unit {0}) Refusal) × (after : List ℕ) × AddingPromise run periods weights phases map answer after
adding_exists run periods weights phases map = Map.call_exists ceiling run periods weights phases map _

-- Some reply and some room after it fit the blanking call.
pub blanking_exists : (run : Run) (map : List ℕ) (threshold : ℕ) (guard : Guard) (room : List ℕ) → (answer : Result ℕ Refusal) × (after : List ℕ) × BlankingPromise run map threshold guard room answer after
blanking_exists = Blanked.blanking_exists

-- Some reply and some file after it fit saving.
pub saving_exists : (run : Run) (map room : List ℕ) → (answer : Result (Unit {0}) Refusal) × (after : List ℕ) × SavingPromise run map room answer after
saving_exists = Saved.saving_exists

-- Some reply and some map after it fit reading.
pub reading_exists : (file map : List ℕ) → (answer : Result Run Refusal) × (after : List ℕ) × ReadingPromise file map answer after
reading_exists = Saved.reading_exists

-- ---- text and report

-- Some reply fits every text.
pub text_exists : (text : List ℕ) → (input : Result Input Refusal) × TextPromise text input
text_exists = Text.text_exists

-- And some output.
pub report_exists : (text : List ℕ) → (output : Output) × ReportPromise text output
report_exists = Report.report_exists
