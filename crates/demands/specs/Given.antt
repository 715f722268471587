-- Requests E1 and E2: "2, which is no longer given", "16 is shown never to occur". What it means that a refusal number is given.
use Rattle.scope.specs.declared.Refusal.{Refusal}
use Rattle.std.specs.Prelude.{ℕ, ◌≤◌, ◌≡◌, List, Result, Option}
use Rattle.scope.specs.declared.Run.{Run}
use Rattle.scope.specs.declared.Source.{Source}
use Rattle.scope.specs.declared.RunCell.{RunCell}
use Rattle.scope.specs.declared.Place.{Place}
use Rattle.scope.specs.Reply.{refused}
use Rattle.vectors.specs.declared.Steps.{Steps}
use Rattle.vectors.specs.Promise.{says_vectors, VectorsPromise}
use Rattle.hits.specs.declared.Listing.{Listing}
use Rattle.hits.specs.Promise.{says_first_hit, says_listing, FirstHitPromise, ListingPromise}
use Rattle.map.specs.Promise.{says_map, MakingPromise, AddingPromise}
use Rattle.blanking.specs.declared.Guard.{Guard}
use Rattle.blanking.specs.Promise.{says_blanking, BlankingPromise}
use Rattle.saved.specs.Promise.{says_saving, says_reading, SavingPromise, ReadingPromise}
use Rattle.text.specs.declared.Input.{Input}
use Rattle.text.specs.Promise.{says_text, TextPromise}
use Rattle.report.specs.declared.Output.{Output}
use Rattle.report.specs.Report.{refusal_report}
use Rattle.report.specs.Promise.{ReportPromise}
use Rattle.exports.specs.declared.StepsReply.{StepsReply}
use Rattle.exports.specs.declared.FirstHitReply.{FirstHitReply}
use Rattle.exports.specs.declared.ListingReply.{ListingReply}
use Rattle.exports.specs.declared.MappedReply.{MappedReply}
use Rattle.exports.specs.declared.BlankingReply.{BlankingReply}
use Rattle.exports.specs.declared.RunReply.{RunReply}
use Rattle.exports.specs.declared.TextReply.{TextReply}
use Rattle.exports.specs.Promise.{Exported}
use Rattle.exports.specs.Replies.{tell_steps, tell_first, tell_listing, tell_mapped, tell_blanking, tell_saved, tell_loaded, tell_text}
use Rattle.demands.specs.Texts.{printed_by}

-- The refusal number n is given: by some call, on some input, in some reply that its promise admits. First the operations, each
-- with what it is asked, its reply and that this reads "refused n"; then the C functions, whose answers have a number, and 0 for none.
pub data Gives (n : ℕ) : Type 0 where
  vectors : (p r I : ℕ) (steps : Steps) → VectorsPromise p r I steps → (place : Place) → says_vectors steps ≡ refused n place → Gives n
  first_hit : (run : Run) (source : Source) (start : RunCell) (reply : Result (Option RunCell) Refusal) → FirstHitPromise run source start reply → (place : Place) → says_first_hit reply ≡ refused n place → Gives n
  listing : (run : Run) (source : Source) (start : RunCell) (room : List ℕ) (reply : Result Listing Refusal) (after : List ℕ) → ListingPromise run source start room reply after → (place : Place) → says_listing reply ≡ refused n place → Gives n
  making : (run : Run) (periods weights phases before : List ℕ) (answer : Result (Unit {0}) Refusal) (after : List ℕ) → MakingPromise run periods weights phases before answer after → (place : Place) → says_map answer ≡ refused n place → Gives n
  adding : (run : Run) (periods weights phases before : List ℕ) (answer : Result (Unit {0}) Refusal) (after : List ℕ) → AddingPromise run periods weights phases before answer after → (place : Place) → says_map answer ≡ refused n place → Gives n
  blanking : (run : Run) (cells : List ℕ) (threshold : ℕ) (guard : Guard) (room : List ℕ) (answer : Result ℕ Refusal) (after : List ℕ) → BlankingPromise run cells threshold guard room answer after → (place : Place) → says_blanking answer ≡ refused n place → Gives n
  saving : (run : Run) (cells room : List ℕ) (answer : Result (Unit {0}) Refusal) (after : List ℕ) → SavingPromise run cells room answer after → (place : Place) → says_saving answer ≡ refused n place → Gives n
  reading : (file before : List ℕ) (answer : Result Run Refusal) (after : List ℕ) → ReadingPromise file before answer after → (place : Place) → says_reading answer ≡ refused n place → Gives n
  text : (bytes : List ℕ) (input : Result Input Refusal) → TextPromise bytes input → (place : Place) → says_text input ≡ refused n place → Gives n
  report : (bytes : List ℕ) (output : Output) → ReportPromise bytes output → (place : Place) → printed_by output ≡ refusal_report n place → Gives n
  c_vectors : (p r I : ℕ) (answer : StepsReply) → Exported (VectorsPromise p r I) tell_steps answer → answer.refusal ≡ n → 1 ≤ n → Gives n
  c_first_hit : (run : Run) (source : Source) (start : RunCell) (answer : FirstHitReply) → Exported (FirstHitPromise run source start) tell_first answer → answer.refusal ≡ n → 1 ≤ n → Gives n
  c_listing : (run : Run) (source : Source) (start : RunCell) (room : List ℕ) (answer : ListingReply) (after : List ℕ) → Exported (λ r. ListingPromise run source start room r after) tell_listing answer → answer.refusal ≡ n → 1 ≤ n → Gives n
  c_making : (run : Run) (periods weights phases before : List ℕ) (answer : MappedReply) (after : List ℕ) → Exported (λ r. MakingPromise run periods weights phases before r after) tell_mapped answer → answer.refusal ≡ n → 1 ≤ n → Gives n
  c_adding : (run : Run) (periods weights phases before : List ℕ) (answer : MappedReply) (after : List ℕ) → Exported (λ r. AddingPromise run periods weights phases before r after) tell_mapped answer → answer.refusal ≡ n → 1 ≤ n → Gives n
  c_blanking : (run : Run) (cells : List ℕ) (threshold : ℕ) (guard : Guard) (room : List ℕ) (answer : BlankingReply) (after : List ℕ) → Exported (λ r. BlankingPromise run cells threshold guard room r after) tell_blanking answer → answer.refusal ≡ n → 1 ≤ n → Gives n
  c_saving : (run : Run) (cells room : List ℕ) (answer : ℕ) (after : List ℕ) → Exported (λ r. SavingPromise run cells room r after) tell_saved answer → answer ≡ n → 1 ≤ n → Gives n
  c_reading : (file before : List ℕ) (answer : RunReply) (after : List ℕ) → Exported (λ r. ReadingPromise file before r after) tell_loaded answer → answer.refusal ≡ n → 1 ≤ n → Gives n
  c_text : (bytes : List ℕ) (answer : TextReply) → Exported (TextPromise bytes) tell_text answer → answer.run.refusal ≡ n → 1 ≤ n → Gives n
