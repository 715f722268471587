-- Demand 1 of the C functions: "Bad input gets the refusal number of document 01, exactly when its table says so, and a refused
-- call stores nothing." Of every answer that a function's promise admits: its refusal and its place are those that the call's table
-- says; and where the refusal is not 0, all else in the answer is 0 but the place, and what is lent is as it was. Assumes nothing.
use Prim.Native.Nat.{ℕ, ◌≤◌}
use native.Mathlib.Omega.{arith}
use mathlib.Core.Path.{◌≡◌, refl, sym, ap, ap₂, ◌∙◌, subst}
use mathlib.Core.Logic.{◌↔◌, ◌≢◌, inl, inr}
use mathlib.Core.List.{List}
use lib.IntN.{pos}
use lib.ListN.{length}
use Rattle.rooms.specs.Lists.{zeros}
use Rattle.scope.specs.declared.Run.{Run}
use Rattle.scope.specs.Run.{ceiling}
use Rattle.scope.specs.declared.Source.{Source}
use Rattle.scope.specs.declared.RunCell.{RunCell}
use Rattle.scope.specs.declared.Reason.{Reason}
use Rattle.scope.specs.declared.Refusal.{Refusal}
use Rattle.std.specs.Prelude.{Option, Some, None, Result, Ok, Err}
use Rattle.scope.specs.declared.Place.{Place}
use Rattle.scope.specs.declared.Place.TheVariants.{Nowhere, AtSource}
use Rattle.scope.specs.Reply.{Said, refused, answered}
use Rattle.scope.proofs.Judged.{refused_same}
use Rattle.vectors.specs.declared.Steps.{Steps}
use Rattle.vectors.specs.declared.Steps.TheVariants.{Pair, Single, Refused}
use Rattle.vectors.specs.Promise.{says_vectors, VectorsPromise}
use Rattle.hits.specs.declared.Listing.{Listing}
use Rattle.hits.specs.Promise.{says_first_hit, says_listing, FirstHitPromise, ListingPromise}
use Rattle.map.specs.Promise.{says_map, MapCallAt}
use Rattle.blanking.specs.declared.Guard.{Guard}
use Rattle.blanking.specs.Promise.{says_blanking, BlankingPromise}
use Rattle.blanking.specs.Table.{blanking_table}
use Rattle.blanking.proofs.Table.{blanking_renders}
use Rattle.saved.specs.Promise.{says_saving, says_reading, SavingPromise, ReadingPromise}
use Rattle.text.specs.declared.Input.{Input}
use Rattle.text.specs.Promise.{most_sources, says_text, TextPromise}
use Rattle.exports.specs.declared.StepsReply.{StepsReply}
use Rattle.exports.specs.declared.FirstHitReply.{FirstHitReply}
use Rattle.exports.specs.declared.ListingReply.{ListingReply}
use Rattle.exports.specs.declared.MappedReply.{MappedReply}
use Rattle.exports.specs.declared.BlankingReply.{BlankingReply}
use Rattle.exports.specs.declared.RunReply.{RunReply}
use Rattle.exports.specs.declared.TextReply.{TextReply}
use Rattle.demands.specs.Places.{RightPlace}
use Rattle.exports.specs.Promise.{Exported}
use Rattle.exports.specs.Replies.{tell_place, tell_steps, tell_first, tell_end, tell_listing, tell_mapped, tell_blanking, tell_saved, tell_loaded, tell_text}
use Rattle.scope.specs.Table.{Says, PlaceTold, Tells}
use Rattle.saved.specs.Table.{saving_table, reading_table}
use Rattle.vectors.specs.Table.{vectors_table}
use Rattle.hits.specs.Table.{first_hit_table, listing_table}
use Rattle.map.specs.Table.{map_table}
use Rattle.text.specs.Table.{SaysOfText}
use Rattle.scope.proofs.Rendered.{every_said, said_some}
use Rattle.vectors.proofs.Table.{vectors_renders}
use Rattle.hits.proofs.Table.{first_hit_renders, listing_renders}
use Rattle.map.proofs.Table.{map_renders}
use Rattle.text.proofs.Table.{text_renders}
use Rattle.saved.proofs.Table.{saving_renders, reading_renders}
use Rattle.demands.proofs.Demand1.{vectors_refused, first_hit_refused, listing_refused, listing_keeps, map_refused, map_keeps, blanking_refused, blanking_keeps, saving_refused, saving_keeps, reading_refused, reading_keeps, text_refused}
use Rattle.demands.proofs.Demand1Places.{said_nowhere, vectors_without, first_hit_without, listing_without, blanking_without, saving_without, reading_without, map_placed, says_placed, vectors_placeless, first_hit_placeless, listing_placeless, blanking_placeless, saving_placeless, reading_placeless}

-- ---- every C function

-- the number that tells a refusal, and 0 for any other reply
abbrev refusal_in : {S : Type 0} → Said S → ℕ
refusal_in (refused n place) = n
refusal_in (answered s) = 0

-- the number that tells its place
abbrev place_in : {S : Type 0} → Said S → ℕ
place_in (refused n place) = tell_place place
place_in (answered s) = 0

-- a place that a table says is "counted from 1"
abbrev Counted : Place → Type 0
Counted Nowhere = Unit {0}
Counted (AtSource k) = 1 ≤ k

-- such a place is told by its number, and no other place is
place_told : (place : Place) → Counted place → PlaceTold place (tell_place place)
place_told Nowhere c = refl
place_told (AtSource k) c = (refl, c)

place_is : (k place : Place) → Counted k → PlaceTold place (tell_place k) → k ≡ place
place_is Nowhere Nowhere c t = refl
place_is Nowhere (AtSource l) c t = absurd (omega (arith, t.0, t.1))
place_is (AtSource k) Nowhere c t = absurd (omega arith)
place_is (AtSource k) (AtSource l) c t = ap AtSource t.0

-- what a reply says and the table says, in numbers
numbers_by_table : {S : Type 0} {Table : ℕ → Place → Type 0} (said : Said S) → ((n : ℕ) (place : Place) → (said ≡ refused n place) ↔ Table n place) → ((n : ℕ) (place : Place) → Table n place → (1 ≤ n) × Counted place) → Tells Table (refusal_in said) (place_in said)
numbers_by_table {S} {Table} (refused m k) is some = record {
  refuses = λ n place. (
    λ h. (is n place).0 (ap₂ refused h.0 (place_is k place (some m k ((is m k).0 refl)).1 h.2)),
    λ t. let s = refused_same ((is n place).1 t) in (s.0, (some n place t).0, subst (λ q. PlaceTold place (tell_place q)) (sym s.1) (place_told place (some n place t).1)),
  );
  accepts = (λ e. absurd (let h = (some m k ((is m k).0 refl)).0 in omega (arith, e.0)), λ none. absurd (none m k ((is m k).0 refl)));
}
numbers_by_table (answered s) is some = record {
  refuses = λ n place. (λ h. absurd (omega (arith, h.0, h.1)), λ t. absurd (let e = (is n place).1 t in let z : ◌≡◌ {A = ℕ} 0 1 = cc in omega arith));
  accepts = (λ e n place t. let r = (is n place).1 t in let z : ◌≡◌ {A = ℕ} 0 1 = cc in omega arith, λ none. (refl, refl));
}

-- a number that is not 0 is a refusal's
refusal_said : {S : Type 0} (said : Said S) → refusal_in said ≢ 0 → (place : Place) × (said ≡ refused (refusal_in said) place)
refusal_said (refused n place) some = (place, refl)
refusal_said (answered s) some = absurd (some refl)

-- an answer that tells a reply, and its refusal, which is the number of what the reply says
module _ {A B S : Type 0} {Promise : A → Type 0} {told : A → B} {answer : B} (e : Exported Promise told answer) (refusal_of : B → ℕ) (says : A → Said S) (field : (reply : A) → refusal_of (told reply) ≡ refusal_in (says reply)) where
  refusal_is : refusal_of answer ≡ refusal_in (says e.reply)
  refusal_is = ap refusal_of e.is ∙ field e.reply

  refused_with : refusal_of answer ≢ 0 → (place : Place) × (says e.reply ≡ refused (refusal_in (says e.reply)) place)
  refused_with some = refusal_said (says e.reply) (λ z. some (refusal_is ∙ z))

  -- "Bad input gets the refusal number .. exactly when its table says so", and its place
  by_table : {Table : ℕ → Place → Type 0} (place_of : B → ℕ) → ((reply : A) → Promise reply → place_of (told reply) ≡ place_in (says reply)) → ((reply : A) → Promise reply → (n : ℕ) (place : Place) → (says reply ≡ refused n place) ↔ Table n place) → ((n : ℕ) (place : Place) → Table n place → (1 ≤ n) × Counted place) → Tells Table (refusal_of answer) (place_of answer)
  by_table place_of place exactly some =
      let told_place : place_of answer ≡ place_in (says e.reply) = ap place_of e.is ∙ place e.reply e.promised in
      rw (refusal_is, told_place) (numbers_by_table (says e.reply) (exactly e.reply e.promised) some)

  -- the reply is a refusal
  alone : (refuses : Reason → Place → A) → ((reply : A) → Promise reply → (n : ℕ) (place : Place) → says reply ≡ refused n place → (reason : Reason) × (reply ≡ refuses reason place)) → refusal_of answer ≢ 0 → (reason : Reason) × (place : Place) × (answer ≡ told (refuses reason place))
  alone refuses only some =
      let said = refused_with some in
      let own = only e.reply e.promised _ said.0 said.1 in
      (own.0, said.0, e.is ∙ ap told own.1)

  -- "and stores nothing in anything lent"
  kept : {Kept : Type 0} → ((reply : A) → Promise reply → (n : ℕ) (place : Place) → says reply ≡ refused n place → Kept) → refusal_of answer ≢ 0 → Kept
  kept keeps some = let said = refused_with some in keeps e.reply e.promised _ said.0 said.1

-- where no refusal has a place, 0 tells it
none_told : {S : Type 0} (said : Said S) → ((n : ℕ) (place : Place) → said ≡ refused n place → place ≡ Nowhere) → 0 ≡ place_in said
none_told (refused n place) none = ap tell_place (sym (none n place refl))
none_told (answered s) none = refl

-- what a table with such places says is counted
nowhere_counted : {Table : ℕ → Place → Type 0} → ((n : ℕ) (place : Place) → Table n place → 1 ≤ n) → ((n : ℕ) (place : Place) → Table n place → place ≡ Nowhere) → (n : ℕ) (place : Place) → Table n place → (1 ≤ n) × Counted place
nowhere_counted some none n place t = (some n place t, subst Counted (sym (none n place t)) tt)

-- and so is the right place of a source in a list
right_counted : (count n : ℕ) (place : Place) → RightPlace count n place → Counted place
right_counted count n Nowhere r = tt
right_counted count n (AtSource k) r = r.1

-- ---- the refusal that each answer has, and the one reply that says "refused n"

-- the reply that refuses for this reason, at this place
abbrev refusing : {A : Type 0} → Reason → Place → Result A Refusal
refusing reason place = Err (record { reason = reason; place = place })

steps_field : (r : Steps) → (tell_steps r).refusal ≡ refusal_in (says_vectors r)
steps_field (Pair left right) = refl
steps_field (Single only) = refl
steps_field (Refused reason place) = refl

steps_only : (r : Steps) (n : ℕ) (place : Place) → says_vectors r ≡ refused n place → (reason : Reason) × (r ≡ Refused reason place)
steps_only (Pair left right) n place e = absurd (let z : ◌≡◌ {A = ℕ} 0 1 = cc in omega arith)
steps_only (Single only) n place e = absurd (let z : ◌≡◌ {A = ℕ} 0 1 = cc in omega arith)
steps_only (Refused reason k) n place e = (reason, ap (Refused reason) (refused_same e).1)

first_field : (r : Result (Option RunCell) Refusal) → (tell_first r).refusal ≡ refusal_in (says_first_hit r)
first_field (Ok (Some cell)) = refl
first_field (Ok None) = refl
first_field (Err refusal) = refl

first_only : (r : Result (Option RunCell) Refusal) (n : ℕ) (place : Place) → says_first_hit r ≡ refused n place → (reason : Reason) × (r ≡ refusing reason place)
first_only (Ok (Some cell)) n place e = absurd (let z : ◌≡◌ {A = ℕ} 0 1 = cc in omega arith)
first_only (Ok None) n place e = absurd (let z : ◌≡◌ {A = ℕ} 0 1 = cc in omega arith)
first_only (Err refusal) n place e = (refusal.reason, ap (refusing refusal.reason) (refused_same e).1)

listing_field : (r : Result Listing Refusal) → (tell_listing r).refusal ≡ refusal_in (says_listing r)
listing_field (Ok listing) = ended listing.count listing.next
  where
    ended : (count : ℕ) (next : Option RunCell) → (tell_end count next).refusal ≡ 0
    ended count None = refl
    ended count (Some cell) = refl
listing_field (Err refusal) = refl

listing_only : (r : Result Listing Refusal) (n : ℕ) (place : Place) → says_listing r ≡ refused n place → (reason : Reason) × (r ≡ refusing reason place)
listing_only (Ok listing) n place e = absurd (let z : ◌≡◌ {A = ℕ} 0 1 = cc in omega arith)
listing_only (Err refusal) n place e = (refusal.reason, ap (refusing refusal.reason) (refused_same e).1)

mapped_field : (r : Result (Unit {0}) Refusal) → (tell_mapped r).refusal ≡ refusal_in (says_map r)
mapped_field (Ok done) = refl
mapped_field (Err refusal) = refl

mapped_place : (r : Result (Unit {0}) Refusal) → (tell_mapped r).place ≡ place_in (says_map r)
mapped_place (Ok done) = refl
mapped_place (Err refusal) = refl

blanking_field : (r : Result ℕ Refusal) → (tell_blanking r).refusal ≡ refusal_in (says_blanking r)
blanking_field (Ok count) = refl
blanking_field (Err refusal) = refl

blanking_only : (r : Result ℕ Refusal) (n : ℕ) (place : Place) → says_blanking r ≡ refused n place → (reason : Reason) × (r ≡ refusing reason place)
blanking_only (Ok count) n place e = absurd (let z : ◌≡◌ {A = ℕ} 0 1 = cc in omega arith)
blanking_only (Err refusal) n place e = (refusal.reason, ap (refusing refusal.reason) (refused_same e).1)

saved_field : (r : Result (Unit {0}) Refusal) → tell_saved r ≡ refusal_in (says_saving r)
saved_field (Ok done) = refl
saved_field (Err refusal) = refl

loaded_field : (r : Result Run Refusal) → (tell_loaded r).refusal ≡ refusal_in (says_reading r)
loaded_field (Ok run) = refl
loaded_field (Err refusal) = refl

loaded_only : (r : Result Run Refusal) (n : ℕ) (place : Place) → says_reading r ≡ refused n place → (reason : Reason) × (r ≡ refusing reason place)
loaded_only (Ok run) n place e = absurd (let z : ◌≡◌ {A = ℕ} 0 1 = cc in omega arith)
loaded_only (Err refusal) n place e = (refusal.reason, ap (refusing refusal.reason) (refused_same e).1)

text_field : (r : Result Input Refusal) → (tell_text r).run.refusal ≡ refusal_in (says_text r)
text_field (Ok input) = refl
text_field (Err refusal) = refl

text_place : (r : Result Input Refusal) → (tell_text r).place ≡ place_in (says_text r)
text_place (Ok input) = refl
text_place (Err refusal) = refl

text_only : (r : Result Input Refusal) (n : ℕ) (place : Place) → says_text r ≡ refused n place → (reason : Reason) × (r ≡ refusing reason place)
text_only (Ok input) n place e = absurd (let z : ◌≡◌ {A = ℕ} 0 1 = cc in omega arith)
text_only (Err refusal) n place e = (refusal.reason, ap (refusing refusal.reason) (refused_same e).1)

-- ---- the nine functions

-- `zenithgong_step_vectors`. (Nothing is lent.)
module _ (p r I : ℕ) {a : StepsReply} (e : Exported (VectorsPromise p r I) tell_steps a) where
  pub exported_vectors_refused : Tells (Says (vectors_table p r I)) a.refusal 0
  exported_vectors_refused =
      by_table e (λ a. a.refusal) says_vectors steps_field (λ a. 0) (λ s h. none_told (says_vectors s) (vectors_placeless p r I s h)) (vectors_refused p r I)
      (nowhere_counted (said_some (vectors_renders p r I)) (said_nowhere (vectors_table p r I) (vectors_without p r I)))

  pub exported_vectors_alone : a.refusal ≢ 0 → a ≡ record { refusal = a.refusal; vectors = 0; alpha = pos 0; beta = 0; gamma = pos 0; delta = 0 }
  exported_vectors_alone some =
      let (reason, place, is) = alone e (λ a. a.refusal) says_vectors steps_field Refused (λ s h. steps_only s) some in
      rw is refl

module _ (run : Run) (source : Source) (start : RunCell) where
  -- `zenithgong_first_hit`. (Nothing is lent.)
  module _ {a : FirstHitReply} (e : Exported (FirstHitPromise run source start) tell_first a) where
    pub exported_first_hit_refused : Tells (Says (first_hit_table run source start)) a.refusal 0
    exported_first_hit_refused =
        by_table e (λ a. a.refusal) says_first_hit first_field (λ a. 0) (λ r h. none_told (says_first_hit r) (first_hit_placeless run source start r h)) (first_hit_refused run source start)
        (nowhere_counted (said_some (first_hit_renders run source start)) (said_nowhere (first_hit_table run source start) (first_hit_without run source start)))

    pub exported_first_hit_alone : a.refusal ≢ 0 → a ≡ record { refusal = a.refusal; found = 0; cell = 0 }
    exported_first_hit_alone some =
        let (reason, place, is) = alone e (λ a. a.refusal) says_first_hit first_field refusing (λ r h. first_only r) some in
        rw is refl

  -- `zenithgong_list_hits`
  module _ (room : List ℕ) {after : List ℕ} {a : ListingReply} (e : Exported (λ r. ListingPromise run source start room r after) tell_listing a) where
    pub exported_listing_refused : Tells (Says (listing_table run source start room)) a.refusal 0
    exported_listing_refused =
        by_table e (λ a. a.refusal) says_listing listing_field (λ a. 0) (λ r h. none_told (says_listing r) (listing_placeless run source start room r after h)) (λ r h. listing_refused run source start room r after h)
        (nowhere_counted (said_some (listing_renders run source start room)) (said_nowhere (listing_table run source start room) (listing_without run source start room)))

    pub exported_listing_keeps : a.refusal ≢ 0 → (a ≡ record { refusal = a.refusal; more = 0; count = 0; next = 0 }) × (after ≡ room)
    exported_listing_keeps some =
        let (reason, place, is) = alone e (λ a. a.refusal) says_listing listing_field refusing (λ r h. listing_only r) some in
        (rw is refl, kept e (λ a. a.refusal) says_listing listing_field (λ r h. listing_keeps run source start room r after h) some)

-- `zenithgong_make_map` and `zenithgong_add_to_map`, whose answer is the refusal and its place
module _ (run : Run) (periods weights phases map : List ℕ) {new after : List ℕ} {a : MappedReply} (e : Exported (λ r. MapCallAt ceiling run periods weights phases map new r after) tell_mapped a) where
  pub exported_map_refused : Tells (Says (map_table run periods weights phases map)) a.refusal a.place
  exported_map_refused =
      by_table e (λ a. a.refusal) says_map mapped_field (λ a. a.place) (λ r h. mapped_place r) (λ r h. map_refused run periods weights phases map r after h)
      (λ n place t. (said_some (map_renders run periods weights phases map) n place t, right_counted (length periods) n place (every_said (RightPlace (length periods)) (map_table run periods weights phases map) (map_placed run periods weights phases map) n place t)))

  pub exported_map_keeps : a.refusal ≢ 0 → after ≡ map
  exported_map_keeps = kept e (λ a. a.refusal) says_map mapped_field (λ r h. map_keeps run periods weights phases map r after h)

-- `zenithgong_list_stretches`
module _ (run : Run) (map : List ℕ) (threshold : ℕ) (guard : Guard) (room : List ℕ) {after : List ℕ} {a : BlankingReply} (e : Exported (λ r. BlankingPromise run map threshold guard room r after) tell_blanking a) where
  pub exported_blanking_refused : Tells (Says (blanking_table run map threshold guard room)) a.refusal 0
  exported_blanking_refused =
      by_table e (λ a. a.refusal) says_blanking blanking_field (λ a. 0) (λ r h. none_told (says_blanking r) (blanking_placeless run map threshold guard room r after h)) (λ r h. blanking_refused run map threshold guard room r after h)
      (nowhere_counted (said_some (blanking_renders run map threshold guard room e.promised.are)) (said_nowhere (blanking_table run map threshold guard room) (blanking_without run map threshold guard room)))

  pub exported_blanking_keeps : a.refusal ≢ 0 → (a ≡ record { refusal = a.refusal; count = 0 }) × (after ≡ room)
  exported_blanking_keeps some =
      let (reason, place, is) = alone e (λ a. a.refusal) says_blanking blanking_field refusing (λ r h. blanking_only r) some in
      (rw is refl, kept e (λ a. a.refusal) says_blanking blanking_field (λ r h. blanking_keeps run map threshold guard room r after h) some)

-- `zenithgong_save`, whose answer is the refusal
module _ (run : Run) (map room : List ℕ) {after : List ℕ} {a : ℕ} (e : Exported (λ r. SavingPromise run map room r after) tell_saved a) where
  pub exported_saving_refused : Tells (Says (saving_table run map room)) a 0
  exported_saving_refused =
      by_table e (λ n. n) says_saving saved_field (λ a. 0) (λ r h. none_told (says_saving r) (saving_placeless run map room r after h)) (λ r h. saving_refused run map room r after h)
      (nowhere_counted (said_some (saving_renders run map room)) (said_nowhere (saving_table run map room) (saving_without run map room)))

  pub exported_saving_keeps : a ≢ 0 → after ≡ room
  exported_saving_keeps = kept e (λ n. n) says_saving saved_field (λ r h. saving_keeps run map room r after h)

-- `zenithgong_read`
module _ (file map : List ℕ) {after : List ℕ} {a : RunReply} (e : Exported (λ r. ReadingPromise file map r after) tell_loaded a) where
  pub exported_reading_refused : Tells (Says (reading_table file map)) a.refusal 0
  exported_reading_refused =
      by_table e (λ a. a.refusal) says_reading loaded_field (λ a. 0) (λ r h. none_told (says_reading r) (reading_placeless file map r after h)) (λ r h. reading_refused file map r after h)
      (nowhere_counted (said_some (reading_renders file map)) (said_nowhere (reading_table file map) (reading_without file map)))

  pub exported_reading_keeps : a.refusal ≢ 0 → (a ≡ record { refusal = a.refusal; window = 0; interval = 0; first = 0; last = 0 }) × (after ≡ map)
  exported_reading_keeps some =
      let (reason, place, is) = alone e (λ a. a.refusal) says_reading loaded_field refusing (λ r h. loaded_only r) some in
      (rw is refl, kept e (λ a. a.refusal) says_reading loaded_field (λ r h. reading_keeps file map r after h) some)

-- `zenithgong_read_text`. (Nothing is lent.)
module _ (text : List ℕ) {a : TextReply} (e : Exported (TextPromise text) tell_text a) where
  text_some : (n : ℕ) (place : Place) → SaysOfText text n place → 1 ≤ n
  text_some n place (inl (inl h)) = omega (arith, h.0)
  text_some n place (inl (inr h)) = absurd h.1
  text_some n place (inr h) = said_some (text_renders h.0) n place h.2

  pub exported_text_refused : Tells (SaysOfText text) a.run.refusal a.place
  exported_text_refused =
      let h = e.promised in
      by_table e (λ a. a.run.refusal) says_text text_field (λ a. a.place) (λ input p. text_place input) (text_refused text)
      (λ n place t. (text_some n place t, right_counted _ n place (says_placed text h.content h.reads n place t)))

  pub exported_text_alone : a.run.refusal ≢ 0 → a ≡ record { run = record { refusal = a.run.refusal; window = 0; interval = 0; first = 0; last = 0 }; place = a.place; count = 0; periods = zeros most_sources; weights = zeros most_sources; phases = zeros most_sources }
  exported_text_alone some =
      let (reason, place, is) = alone e (λ a. a.run.refusal) says_text text_field refusing (λ input h. text_only input) some in
      rw is refl
