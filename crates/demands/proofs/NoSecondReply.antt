-- Document 01, "How much each promise says": "For every input, refusals too, each public operation's promise determines the
-- reply and every lent cell afterwards. That no second reply fits is proved". One theorem for each of the library's ten
-- operations, which cites the one of the operation's own crate; of the nine C functions: exports, Unique. There is no
-- exception. Assumes nothing.
use Rattle.std.specs.Prelude.{Result, Option}
use Rattle.scope.specs.declared.Refusal.{Refusal}
use Prim.Native.Nat.{ℕ}
use mathlib.Core.Path.{◌≡◌}
use mathlib.Core.List.{List}
use Rattle.scope.specs.declared.Run.{Run}
use Rattle.scope.specs.declared.Source.{Source}
use Rattle.scope.specs.declared.RunCell.{RunCell}
use Rattle.vectors.specs.declared.Steps.{Steps}
use Rattle.vectors.specs.Promise.{VectorsPromise}
use Rattle.vectors.proofs.Unique as Vectors
use Rattle.hits.specs.declared.Listing.{Listing}
use Rattle.hits.specs.Promise.{FirstHitPromise, ListingPromise}
use Rattle.hits.proofs.Unique as Hits
use Rattle.map.specs.Promise.{MakingPromise, AddingPromise}
use Rattle.map.proofs.Unique as Map
use Rattle.blanking.specs.declared.Guard.{Guard}
use Rattle.blanking.specs.Promise.{BlankingPromise}
use Rattle.blanking.proofs.Unique as Blanked
use Rattle.saved.specs.Promise.{SavingPromise, ReadingPromise}
use Rattle.saved.proofs.Unique as Saved
use Rattle.text.specs.declared.Input.{Input}
use Rattle.text.specs.Promise.{TextPromise}
use Rattle.text.proofs.Unique as Text
use Rattle.report.specs.declared.Output.{Output}
use Rattle.report.specs.Promise.{ReportPromise}
use Rattle.report.proofs.Unique as Report

-- The vectors call: one reply.
pub vectors_unique : (p r I : ℕ) (a b : Steps) → VectorsPromise p r I a → VectorsPromise p r I b → a ≡ b
vectors_unique = Vectors.vectors_unique

-- The first-hit call: one reply.
pub first_hit_unique : (run : Run) (source : Source) (start : RunCell) (a b : Result (Option RunCell) Refusal) → FirstHitPromise run source start a → FirstHitPromise run source start b → a ≡ b
first_hit_unique = Hits.first_hit_unique

-- The listing call: one reply, and one room after it.
pub listing_unique : (run : Run) (source : Source) (start : RunCell) (room : List ℕ) (a b : Result Listing Refusal) (after after' : List ℕ) → ListingPromise run source start room a after → ListingPromise run source start room b after' → (a ≡ b) × (after ≡ after')
listing_unique run source start room a b after after' = Hits.listing_unique

-- The plain map call: one reply, and one map after it.
pub making_unique : (run : Run) (periods weights phases map : List ℕ) (a b : Result (Unit {0}) Refusal) (after after' : List ℕ) → MakingPromise run periods weights phases map a after → MakingPromise run periods weights phases map b after' → (a ≡ b) × (after ≡ after')
making_unique run periods weights phases map a b after after' = Map.call_unique

-- The adding call: one reply, and one map after it.
pub adding_unique : (run : Run) (periods weights phases map : List ℕ) (a b : Result (Unit {0}) Refusal) (after after' : List ℕ) → AddingPromise run periods weights phases map a after → AddingPromise run periods weights phases map b after' → (a ≡ b) × (after ≡ after')
adding_unique run periods weights phases map a b after after' = Map.call_unique

-- The blanking call: one reply, and one room after it.
pub blanking_unique : (run : Run) (map : List ℕ) (threshold : ℕ) (guard : Guard) (room : List ℕ) (a b : Result ℕ Refusal) (after after' : List ℕ) → BlankingPromise run map threshold guard room a after → BlankingPromise run map threshold guard room b after' → (a ≡ b) × (after ≡ after')
blanking_unique run map threshold guard room a b after after' = Blanked.blanking_unique

-- Saving: one reply, and one file after it.
pub saving_unique : (run : Run) (map room : List ℕ) (a b : Result (Unit {0}) Refusal) (after after' : List ℕ) → SavingPromise run map room a after → SavingPromise run map room b after' → (a ≡ b) × (after ≡ after')
saving_unique run map room a b after after' = Saved.saving_unique

-- Reading: one reply with its run, and one map after it.
pub reading_unique : (file map : List ℕ) (a b : Result Run Refusal) (after after' : List ℕ) → ReadingPromise file map a after → ReadingPromise file map b after' → (a ≡ b) × (after ≡ after')
reading_unique file map a b after after' = Saved.reading_unique

-- Reading a text: one reply with its run and sources.
pub text_unique : (text : List ℕ) (a b : Result Input Refusal) → TextPromise text a → TextPromise text b → a ≡ b
text_unique = Text.text_unique

-- The report on a text: one output, both its count and its bytes.
pub report_unique : (text : List ℕ) (a b : Output) → ReportPromise text a → ReportPromise text b → a ≡ b
report_unique = Report.report_unique
