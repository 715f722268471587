-- Document 01, "How much each promise says": "each public operation's promise determines the reply and every lent cell
-- afterwards", of the nine C functions. An export adds nothing that its operation leaves open. Assumes nothing.
use Prim.Native.Nat.{ℕ}
use mathlib.Core.Path.{◌≡◌, sym, ap, ◌∙◌}
use mathlib.Core.List.{List}
use Rattle.scope.specs.declared.Run.{Run}
use Rattle.scope.specs.Run.{ceiling}
use Rattle.scope.specs.declared.Source.{Source}
use Rattle.scope.specs.declared.RunCell.{RunCell}
use Rattle.vectors.specs.Promise.{VectorsPromise}
use Rattle.vectors.proofs.Unique.{vectors_unique}
use Rattle.hits.specs.Promise.{FirstHitPromise, ListingPromise}
use Rattle.hits.proofs.Unique.{first_hit_unique, listing_unique}
use Rattle.map.specs.Promise.{MapCallAt}
use Rattle.map.proofs.Unique.{call_unique}
use Rattle.blanking.specs.declared.Guard.{Guard}
use Rattle.blanking.specs.Promise.{BlankingPromise}
use Rattle.blanking.proofs.Unique.{blanking_unique}
use Rattle.saved.specs.Promise.{SavingPromise, ReadingPromise}
use Rattle.saved.proofs.Unique.{saving_unique, reading_unique}
use Rattle.text.specs.Promise.{TextPromise}
use Rattle.text.proofs.Unique.{text_unique}
use Rattle.exports.specs.declared.StepsReply.{StepsReply}
use Rattle.exports.specs.declared.FirstHitReply.{FirstHitReply}
use Rattle.exports.specs.declared.ListingReply.{ListingReply}
use Rattle.exports.specs.declared.MappedReply.{MappedReply}
use Rattle.exports.specs.declared.BlankingReply.{BlankingReply}
use Rattle.exports.specs.declared.RunReply.{RunReply}
use Rattle.exports.specs.declared.TextReply.{TextReply}
use Rattle.exports.specs.Promise.{Exported}
use Rattle.exports.specs.Replies.{tell_steps, tell_first, tell_listing, tell_mapped, tell_blanking, tell_saved, tell_loaded, tell_text}

-- Where no second reply fits, no second answer does. (Two promises: of what is lent, each may name what it holds afterwards.)
answer_unique : {A B : Type 0} {Promise Other : A → Type 0} {told : A → B} {a b : B} → ((r s : A) → Promise r → Other s → r ≡ s) → Exported Promise told a → Exported Other told b → a ≡ b
answer_unique {told = told} unique x y = x.is ∙ ap told (unique x.reply y.reply x.promised y.promised) ∙ sym y.is

-- `zenithgong_step_vectors`: one answer.
pub exported_vectors_unique : (p r I : ℕ) {a b : StepsReply} → Exported (VectorsPromise p r I) tell_steps a → Exported (VectorsPromise p r I) tell_steps b → a ≡ b
exported_vectors_unique p r I x y = answer_unique (vectors_unique p r I) x y

-- `zenithgong_first_hit`: one answer.
pub exported_first_hit_unique : (run : Run) (source : Source) (start : RunCell) {a b : FirstHitReply} → Exported (FirstHitPromise run source start) tell_first a → Exported (FirstHitPromise run source start) tell_first b → a ≡ b
exported_first_hit_unique run source start x y = answer_unique (first_hit_unique run source start) x y

-- `zenithgong_list_hits`: one answer, and one room after it.
pub exported_listing_unique : {run : Run} {source : Source} {start : RunCell} {room after after' : List ℕ} {a b : ListingReply} → Exported (λ r. ListingPromise run source start room r after) tell_listing a → Exported (λ r. ListingPromise run source start room r after') tell_listing b → (a ≡ b) × (after ≡ after')
exported_listing_unique x y = (answer_unique (λ r s p q. (listing_unique p q).0) x y, (listing_unique x.promised y.promised).1)

-- `zenithgong_make_map` and `zenithgong_add_to_map`: one answer, and one map after it.
pub exported_map_unique : {run : Run} {periods weights phases map new after after' : List ℕ} {a b : MappedReply} → Exported (λ r. MapCallAt ceiling run periods weights phases map new r after) tell_mapped a → Exported (λ r. MapCallAt ceiling run periods weights phases map new r after') tell_mapped b → (a ≡ b) × (after ≡ after')
exported_map_unique x y = (answer_unique (λ r s p q. (call_unique p q).0) x y, (call_unique x.promised y.promised).1)

-- `zenithgong_list_stretches`: one answer, and one room after it.
pub exported_blanking_unique : {run : Run} {map : List ℕ} {threshold : ℕ} {guard : Guard} {room after after' : List ℕ} {a b : BlankingReply} → Exported (λ r. BlankingPromise run map threshold guard room r after) tell_blanking a → Exported (λ r. BlankingPromise run map threshold guard room r after') tell_blanking b → (a ≡ b) × (after ≡ after')
exported_blanking_unique x y = (answer_unique (λ r s p q. (blanking_unique p q).0) x y, (blanking_unique x.promised y.promised).1)

-- `zenithgong_save`: one answer, and one file after it.
pub exported_saving_unique : {run : Run} {map file after after' : List ℕ} {a b : ℕ} → Exported (λ r. SavingPromise run map file r after) tell_saved a → Exported (λ r. SavingPromise run map file r after') tell_saved b → (a ≡ b) × (after ≡ after')
exported_saving_unique x y = (answer_unique (λ r s p q. (saving_unique p q).0) x y, (saving_unique x.promised y.promised).1)

-- `zenithgong_read`: one answer, and one map after it.
pub exported_reading_unique : {file map after after' : List ℕ} {a b : RunReply} → Exported (λ r. ReadingPromise file map r after) tell_loaded a → Exported (λ r. ReadingPromise file map r after') tell_loaded b → (a ≡ b) × (after ≡ after')
exported_reading_unique x y = (answer_unique (λ r s p q. (reading_unique p q).0) x y, (reading_unique x.promised y.promised).1)

-- `zenithgong_read_text`: one answer.
pub exported_text_unique : {text : List ℕ} {a b : TextReply} → Exported (TextPromise text) tell_text a → Exported (TextPromise text) tell_text b → a ≡ b
exported_text_unique {text} x y = answer_unique (text_unique text) x y
