-- Demand 1: "Every call ends, for all inputs and all lent lengths, without asking its caller for anything first. Bad input
-- gets the refusal number of document 01, exactly when its table says so, and a refused call stores nothing." Request E1: "Demand 1
-- reads with the finer table", and a refusal has its place.
-- That every call ends is what the check of its function says, and no public operation has a `requires`. The rest stands
-- here, for every input and every outcome that a promise admits. Assumes nothing.
use Rattle.std.specs.Prelude.{Result, Ok, Err, Option as Option·code}
use Prim.Native.Nat.{ℕ, ◌≤◌, ◌<◌}
use native.Mathlib.Omega.{arith}
use mathlib.Core.Path.{◌≡◌, refl, sym, ap, ap₂, ◌∙◌, subst}
use mathlib.Core.Logic.Iff
use mathlib.Core.Logic.{◌↔◌, ◌⊎◌, inl, inr, ◌≢◌}
use mathlib.Core.List.{List, [], ◌∷◌, ◌++◌}
use mathlib.Core.Option.{Option, some, none}
use lib.ListN.{length, get_or, take}
use Rattle.rooms.proofs.Lists.{padded_front}
use borrow.Author.Tests.{leb-false, lt-leb, eqb-false}
use Rattle.scope.specs.declared.Run.{Run}
use Rattle.scope.specs.declared.Source.{Source}
use Rattle.scope.specs.declared.RunCell.{RunCell}
use Rattle.scope.specs.Run.{ValidRun, ValidSource, ceiling, cells_of}
use Rattle.scope.specs.Hit.{hits_from}
use Rattle.scope.specs.declared.Refusal.{Refusal}
use Rattle.scope.specs.declared.Reason.{Reason}
use Rattle.scope.specs.Refusal.{complaint, number}
use Rattle.scope.specs.Reply.{Said, refused, answered}
use Rattle.sources.specs.declared.Entry.{Entry}
use Rattle.sources.specs.Entry.{entries_of}
use Rattle.scope.specs.declared.Place.{Place}
use Rattle.scope.proofs.Judged.{refused_same, sound, both}
use Rattle.scope.proofs.Limits.{passes_when, passes_first, passes_then, valid_run, valid_run_passes, valid_source, valid_source_passes}
use Rattle.sources.specs.Lists.{OneLength, periods_of, weights_of, phases_of, ValidEntries}
use Rattle.sources.proofs.Entries.{entries_of_lem, one_length, valid_entries, valid_entries_pass, valid_lists}
use Rattle.vectors.specs.declared.Steps.{Steps}
use Rattle.vectors.specs.Vectors.{Values}
use Rattle.vectors.specs.Promise.{vectors_tests, says_vectors, Admits, VectorsPromise}
use Rattle.hits.specs.declared.Listing.{Listing}
use Rattle.hits.specs.Promise.{first_hit_tests, says_first_hit, says_listing, first, listed, written, FirstHitPromise, ListingPromise}
use Rattle.map.specs.Promise.{map_tests, says_map, MapCallAt}
use Rattle.blanking.specs.declared.Guard.{Guard}
use Rattle.blanking.specs.Promise.{says_blanking, BlankingPromise}
use Rattle.blanking.specs.Promise as Blanked
use Rattle.blanking.specs.Table.{BadGuard, HoldsFewer, blanking_table}
use Rattle.blanking.proofs.Guarding.{blanked_stretches}
use Rattle.blanking.proofs.Table.{blanking_renders}
use Rattle.saved.specs.File.{file_of, run_of, map_of}
use Rattle.saved.specs.Promise.{says_saving, says_reading, SavingPromise, ReadingPromise}
use Rattle.scope.proofs.Differs.{agrees, same}
use Rattle.text.specs.declared.Input.{Input}
use Rattle.words.specs.Line.{line}
use Rattle.text.specs.Form.{Content, Spells}
use Rattle.text.specs.Promise.{most_sources, most_cells, Reads, reply_to, handed, says_text, TextPromise, sources_of}
use Rattle.text.proofs.Unique.{spells_unique}
use Rattle.report.specs.declared.Output.{Output}
use Rattle.report.specs.Report.{refusal_report, run_report, whole_report, printed, report_of}
use Rattle.report.proofs.Refusals.{refusal_told, refusal_second}
use Rattle.report.specs.Promise.{room_bytes, ReportPromise}
use Rattle.scope.specs.Table.{Row, ◌given◌, Says, Silent, run_table}
use Rattle.saved.specs.Table.{saving_table, reading_table}
use Rattle.sources.specs.Table.{AtFault, sources_table, source_lists_table}
use Rattle.sources.proofs.Table as Sources
use Rattle.vectors.specs.Table.{vectors_table}
use Rattle.hits.specs.Table.{first_hit_table, listing_table}
use Rattle.map.specs.Table.{map_table}
use Rattle.text.specs.Table.{text_table, SaysOfText}
use Rattle.demands.specs.Texts.{printed_by}
use Rattle.scope.proofs.Rendered.{FailsAs, says_split, silent_says, complained, exactly, keeps}
use Rattle.saved.proofs.Table.{saving_renders, reading_renders}
use Rattle.vectors.proofs.Table.{vectors_renders}
use Rattle.hits.proofs.Table.{first_hit_renders, listing_renders}
use Rattle.map.proofs.Table.{map_renders}
use Rattle.scope.proofs.Table.{run_renders}
use Rattle.text.proofs.Table.{text_renders}

-- ---- vectors

-- A reply of the vectors call reads "refused n" at a place exactly when its table says so. (Nothing is lent.)
pub vectors_refused : (p r I : ℕ) (steps : Steps) → VectorsPromise p r I steps → (n : ℕ) (place : Place) → (says_vectors steps ≡ refused n place) ↔ Says (vectors_table p r I) n place
unfolding VectorsPromise
vectors_refused p r I steps h n place = Iff.trans (admitted (complaint (vectors_tests p r I)) (says_vectors steps) refl h) ((vectors_renders p r I).fails n place)
  where
    admitted : (o : Option Refusal) (said : Said Values) → complaint (vectors_tests p r I) ≡ o → Admits o p r I said → (said ≡ refused n place) ↔ FailsAs (vectors_tests p r I) n place
    admitted none (answered values) i h = (λ e. absurd (let z : ◌≡◌ {A = ℕ} 0 1 = cc in omega arith), λ f. absurd (let k = sym i ∙ f.fails.is in let z : ◌≡◌ {A = ℕ} 0 1 = cc in omega arith))
    admitted none (refused m other) i h = absurd h
    admitted (some c) said i h =
        let told = complained c i n place in
        (λ e. told.0 (refused_same (sym h ∙ e)), λ f. let s = told.1 f in h ∙ ap₂ refused s.0 s.1)

-- ---- first hit and listing

module _ (run : Run) (source : Source) (start : RunCell) where
  -- A reply of the first-hit call reads "refused n" at a place exactly when its table says so. (Nothing is lent.)
  pub first_hit_refused : (r : Result (Option·code RunCell) Refusal) → FirstHitPromise run source start r → (n : ℕ) (place : Place) → (says_first_hit r ≡ refused n place) ↔ Says (first_hit_table run source start) n place
  unfolding FirstHitPromise
  first_hit_refused r h = exactly (first_hit_renders run source start) (first (hits_from run source start.0)) (says_first_hit r) h

  module _ (room : List ℕ) (r : Result Listing Refusal) (after : List ℕ) (h : ListingPromise run source start room r after) where
    -- A reply of the listing call reads "refused n" at a place exactly when its table says so.
    pub listing_refused : (n : ℕ) (place : Place) → (says_listing r ≡ refused n place) ↔ Says (listing_table run source start room) n place
    listing_refused = exactly (listing_renders run source start room) (listed (hits_from run source start.0) room) (says_listing r) h.says

    -- And the room then holds what it held.
    pub listing_keeps : (n : ℕ) (place : Place) → says_listing r ≡ refused n place → after ≡ room
    listing_keeps = keeps (listing_renders run source start room) (listed (hits_from run source start.0) room) (says_listing r) h.says room (written (hits_from run source start.0) room) after h.stores

-- ---- map: both calls, whatever new cells each makes

module _ (run : Run) (periods weights phases map : List ℕ) {new : List ℕ} (answer : Result (Unit {0}) Refusal) (after : List ℕ) (h : MapCallAt ceiling run periods weights phases map new answer after) where
  -- A reply of a map call reads "refused n" at a place exactly when the table says so.
  pub map_refused : (n : ℕ) (place : Place) → (says_map answer ≡ refused n place) ↔ Says (map_table run periods weights phases map) n place
  map_refused = exactly (map_renders run periods weights phases map) tt (says_map answer) h.says

  -- And the map then holds what it held: none is "half written before the tenth source is refused", nor cleared.
  pub map_keeps : (n : ℕ) (place : Place) → says_map answer ≡ refused n place → after ≡ map
  map_keeps = keeps (map_renders run periods weights phases map) tt (says_map answer) h.says map new after h.stores

-- ---- the blanking list

module _ (run : Run) (map : List ℕ) (threshold : ℕ) (guard : Guard) (room : List ℕ) (answer : Result ℕ Refusal) (after : List ℕ) (h : BlankingPromise run map threshold guard room answer after) where
  -- A reply of the blanking call reads "refused n" at a place exactly when its table says so.
  pub blanking_refused : (n : ℕ) (place : Place) → (says_blanking answer ≡ refused n place) ↔ Says (blanking_table run map threshold guard room) n place
  blanking_refused = exactly (blanking_renders run map threshold guard room h.are) (length h.stretches) (says_blanking answer) h.says

  -- And the room then holds what it held: a list that does not fit has not begun to be written.
  pub blanking_keeps : (n : ℕ) (place : Place) → says_blanking answer ≡ refused n place → after ≡ room
  blanking_keeps = keeps (blanking_renders run map threshold guard room h.are) (length h.stretches) (says_blanking answer) h.says room (Blanked.written h.stretches room) after h.stores

-- ---- saving and reading

module _ (run : Run) (map room : List ℕ) (answer : Result (Unit {0}) Refusal) (after : List ℕ) (h : SavingPromise run map room answer after) where
  -- A reply of the saving call reads "refused n" at a place exactly when its table says so.
  pub saving_refused : (n : ℕ) (place : Place) → (says_saving answer ≡ refused n place) ↔ Says (saving_table run map room) n place
  saving_refused = exactly (saving_renders run map room) tt (says_saving answer) h.says

  -- And the room for the file then holds what it held.
  pub saving_keeps : (n : ℕ) (place : Place) → says_saving answer ≡ refused n place → after ≡ room
  saving_keeps = keeps (saving_renders run map room) tt (says_saving answer) h.says room (file_of run map) after h.stores

module _ (file map : List ℕ) (answer : Result Run Refusal) (after : List ℕ) (h : ReadingPromise file map answer after) where
  -- A reply of the reading call reads "refused n" at a place exactly when its table says so.
  pub reading_refused : (n : ℕ) (place : Place) → (says_reading answer ≡ refused n place) ↔ Says (reading_table file map) n place
  reading_refused = exactly (reading_renders file map) (run_of file) (says_reading answer) h.says

  -- And the map then holds what it held.
  pub reading_keeps : (n : ℕ) (place : Place) → says_reading answer ≡ refused n place → after ≡ map
  reading_keeps = keeps (reading_renders file map) (run_of file) (says_reading answer) h.says map (map_of file) after h.stores

-- ---- reading a text

-- What is to be replied to a text is "refused n" at a place exactly when the table of the text says so.
reply_refused : (text : List ℕ) (o : Option Content) → Reads text o → (n : ℕ) (place : Place) → (reply_to o ≡ refused n place) ↔ SaysOfText text n place
reply_refused text none r n place = (λ k. let s = refused_same k in inl (inl (s.0, s.1, r)), back)
  where
    back : SaysOfText text n place → reply_to none ≡ refused n place
    back (inl (inl k)) = ap₂ refused k.0 k.1
    back (inl (inr k)) = absurd k.1
    back (inr k) = absurd (r k.0 k.1)
reply_refused text (some content) r n place = (λ k. inr (content, r, told.0 k), back)
  where
    told : (reply_to (some content) ≡ refused n place) ↔ Says (text_table content) n place
    told = exactly (text_renders content) content.run (reply_to (some content)) refl n place

    back : SaysOfText text n place → reply_to (some content) ≡ refused n place
    back (inl (inl k)) = absurd (k.2 content r)
    back (inl (inr k)) = absurd k.1
    back (inr k) = told.1 (subst (λ c. Says (text_table c) n place) (spells_unique k.1 r) k.2)

module _ (text : List ℕ) (input : Result Input Refusal) (h : TextPromise text input) where
  -- A reply to a text reads "refused n" at a place exactly when its table says so: 11 exactly when the text has not the form, else
  -- what the table says of the run and the sources in it.
  pub text_refused : (n : ℕ) (place : Place) → (says_text input ≡ refused n place) ↔ SaysOfText text n place
  text_refused n place = rw h.says (reply_refused text h.content h.reads n place)

  -- "a refusal carries the reason and, where it concerns a source, that place" (E1), and nothing else: no run and no source goes with it.
  pub text_refused_alone : (n : ℕ) (place : Place) → says_text input ≡ refused n place → (reason : Reason) × (number reason ≡ n) × (input ≡ Err (record { reason = reason; place = place }))
  text_refused_alone n place e = alone input e
    where
      alone : (reply : Result Input Refusal) → says_text reply ≡ refused n place → (reason : Reason) × (number reason ≡ n) × (reply ≡ Err (record { reason = reason; place = place }))
      alone (Ok handed_out) s = absurd (let z : ◌≡◌ {A = ℕ} 0 1 = cc in omega arith)
      alone (Err refusal) s = let same = refused_same s in (refusal.reason, same.0, ap (λ p. Err (record { reason = refusal.reason; place = p })) same.1)

-- ---- the report on a text

-- The line `refused n`, or `refused n source k`, is printed for a refusal with this number and this place, and for nothing else: a
-- whole report begins with `ru`, and lines of refusals that are written the same are of one number and one place.
printed_refused : (said : Said Run) (entries : List Entry) (n : ℕ) (place : Place) → (printed said entries ≡ refusal_report n place) ↔ (said ≡ refused n place)
unfolding printed whole_report run_report line
printed_refused (refused m k) entries n place = (λ e. let s = refusal_told m n k place e in ap₂ refused s.0 s.1, λ e. let s = refused_same e in ap₂ refusal_report s.0 s.1)
printed_refused (answered run) entries n place = (
  λ e. absurd (let z : ◌≡◌ {A = ℕ} 117 101 = ap (λ l. get_or l 1 0) e ∙ refusal_second n place in omega arith),
  λ e. absurd (let z : ◌≡◌ {A = ℕ} 0 1 = cc in omega arith),
)

-- What is printed of a text is the line of a refusal, "and nothing more", exactly when the table of the text says its number at its
-- place. (Nothing is lent.)
pub report_refused : (text : List ℕ) (output : Output) → ReportPromise text output → (n : ℕ) (place : Place) → (printed_by output ≡ refusal_report n place) ↔ SaysOfText text n place
unfolding report_of
report_refused text output h n place =
    let bytes = report_of h.content in
    let is : printed_by output ≡ bytes = ap (take output.length) h.says.begins ∙ padded_front room_bytes output.length bytes (sym h.says.counts) in
    rw is (Iff.trans (printed_refused (reply_to h.content) (handed h.content) n place) (reply_refused text h.content h.reads n place))

-- ---- input that is not bad

-- The interval is a number of 32 bits, so that its upper limit is no row.
module _ (run : Run) (fits : run.interval ≤ 4294967295) where
  -- The table of the first-hit call says nothing exactly if run, source and start are within 01's ranges.
  pub first_hit_silent : (source : Source) (start : RunCell) → Silent (first_hit_table run source start) ↔ (ValidRun run × ValidSource source × (start.0 < cells_of run))
  unfolding first_hit_tests
  first_hit_silent source start =
      let rows = first_hit_renders run source start in (
        λ s. let p = rows.passes.1 s in (valid_run (passes_first (passes_first p)) fits, valid_source (passes_then (passes_first p)), leb-false _ _ (passes_when (passes_then p))),
        λ h. rows.passes.0 (both (both (valid_run_passes h.0) (valid_source_passes h.1)) (sound (lt-leb _ _ h.2))),
      )

  -- That of the map calls exactly if the run and all sources are, and the lists and the map have the right lengths.
  pub map_silent : (periods weights phases map : List ℕ) → Silent (map_table run periods weights phases map) ↔ (ValidRun run × OneLength periods weights phases × ValidEntries ceiling (entries_of periods weights phases) × (length map ≡ cells_of run))
  unfolding map_tests
  map_silent periods weights phases map =
      let entries = entries_of periods weights phases in
      let rows = map_renders run periods weights phases map in
      let three = valid_lists ceiling periods weights phases in (
        λ s.
            let p = rows.passes.1 s in
            let lists = three.0 (passes_then (passes_first p)) in
            (valid_run (passes_first (passes_first p)) fits, lists.0, valid_entries ceiling 1 entries lists.1, same _ _ (passes_then p)),
        λ h. rows.passes.0 (both (both (valid_run_passes h.0) (three.1 (h.1, valid_entries_pass ceiling 1 entries h.2))) (sound (agrees refl refl h.3))),
      )

  -- And that of the blanking call exactly if the run is, the threshold is above 0, the guard lies upright in the window, the map has the
  -- run's cells and the room holds the stretches.
  pub blanking_silent : (map : List ℕ) (threshold : ℕ) (guard : Guard) (room : List ℕ) → Silent (blanking_table run map threshold guard room) ↔ (ValidRun run × (1 ≤ threshold) × (BadGuard run.window guard → ⊥) × (length map ≡ cells_of run) × (HoldsFewer run map threshold guard room → ⊥))
  unfolding Blanked.blanking_tests Blanked.asked_tests
  blanking_silent map threshold guard room =
      let rows = blanking_renders run map threshold guard room (blanked_stretches run map threshold guard).1 in (
        λ s.
            let asked = passes_first (rows.passes.1 s) in
            let before = passes_first (passes_first asked) in (
              valid_run (passes_first before) fits,
              omega (arith, eqb-false threshold 0 (passes_when (passes_then before))),
              s.1.1.1.1.1.0,
              same _ _ (passes_then asked),
              s.1.1.1.1.1.1.1.0,
            ),
        λ h.
            let fine = (run_renders run).passes.0 (valid_run_passes h.0) in
            (fine.0, (fine.1.0, (fine.1.1.0, (fine.1.1.1.0, (λ e. omega (arith, e, h.1), (h.2, (λ n. n h.3, (h.4, tt)))))))),
      )

-- ---- a list of sources at fault

-- "source by source": what the table says of three lists of one length is what is broken by the first source that breaks 4, 7 or 22, at
-- its place; it is the first of these that the source breaks.
pub sources_at_fault : (periods weights phases : List ℕ) → OneLength periods weights phases → (n : ℕ) (place : Place) → Says (sources_table 1 (entries_of periods weights phases)) n place ↔ AtFault periods weights phases n place
sources_at_fault = Sources.sources_at_fault

-- The same of the sources that a text has.
pub entries_at_fault : (entries : List Entry) (n : ℕ) (place : Place) → Says (sources_table 1 entries) n place ↔ AtFault (periods_of entries) (weights_of entries) (phases_of entries) n place
entries_at_fault entries n place = rw (entries_of_lem entries) at (sources_at_fault (periods_of entries) (weights_of entries) (phases_of entries) (one_length entries) n place)

-- Where the run and the lengths of the lists are in order, a map call reads "refused n" at a place, n being no 9, exactly if a source
-- is so at fault: then n is 4, 7 or 22, and the place is that source's.
pub map_at_fault : (run : Run) (periods weights phases map : List ℕ) {new : List ℕ} (answer : Result (Unit {0}) Refusal) (after : List ℕ) → MapCallAt ceiling run periods weights phases map new answer after → Silent (run_table run) → OneLength periods weights phases → (n : ℕ) (place : Place) → n ≢ 9 → (says_map answer ≡ refused n place) ↔ AtFault periods weights phases n place
map_at_fault run periods weights phases map answer after h fine equal n place other = Iff.trans (map_refused run periods weights phases map answer after h n place) (Iff.trans (to, from) (sources_at_fault periods weights phases equal n place))
  where
    sources : List Row
    sources = sources_table 1 (entries_of periods weights phases)

    room : List Row
    room = 9 given (length map ≢ cells_of run) ∷ []

    unequal : (length periods ≢ length weights) ⊎ (length periods ≢ length phases) → ⊥
    unequal (inl k) = k equal.0
    unequal (inr k) = k equal.1

    last : Says sources n place ⊎ (Silent sources × Says room n place) → Says sources n place
    last (inl k) = k
    last (inr (s, inl k)) = absurd (other (sym k.0))
    last (inr (s, inr k)) = absurd k.1

    lists : Says (run_table run) n place ⊎ (Silent (run_table run) × Says (source_lists_table periods weights phases ++ room) n place) → Says sources n place
    lists (inl k) = absurd (silent_says (run_table run) n place fine k)
    lists (inr (s, inl k)) = absurd (unequal k.2)
    lists (inr (s, inr k)) = last ((says_split sources room n place).0 k.1)

    to : Says (map_table run periods weights phases map) n place → Says sources n place
    to s = lists ((says_split (run_table run) (source_lists_table periods weights phases ++ room) n place).0 s)

    from : Says sources n place → Says (map_table run periods weights phases map) n place
    from s = (says_split (run_table run) (source_lists_table periods weights phases ++ room) n place).1 (inr (fine, inr (unequal, (says_split sources room n place).1 (inl s))))

-- The same of a text: where it has the form, the run's rows are silent and neither its sources nor its cells are too many, it is refused
-- exactly if one of its sources is so at fault. The place counts its `src` lines.
says_at_fault : (text : List ℕ) (content : Content) → Spells text content → Silent (run_table content.run) → length content.entries ≤ most_sources → cells_of content.run ≤ most_cells → (n : ℕ) (place : Place) → SaysOfText text n place ↔ AtFault (periods_of content.entries) (weights_of content.entries) (phases_of content.entries) n place
says_at_fault text content spells fine few small n place = Iff.trans (to, from) (entries_at_fault content.entries n place)
  where
    sources : List Row
    sources = sources_table 1 content.entries

    many : List Row
    many = 12 given ((most_sources < length content.entries) ⊎ (most_cells < cells_of content.run)) ∷ sources

    few_enough : (most_sources < length content.entries) ⊎ (most_cells < cells_of content.run) → ⊥
    few_enough (inl k) = omega arith
    few_enough (inr k) = omega arith

    own : Says (run_table content.run) n place ⊎ (Silent (run_table content.run) × Says many n place) → Says sources n place
    own (inl k) = absurd (silent_says (run_table content.run) n place fine k)
    own (inr (s, inl k)) = absurd (few_enough k.2)
    own (inr (s, inr k)) = k.1

    to : SaysOfText text n place → Says sources n place
    to (inl (inl k)) = absurd (k.2 content spells)
    to (inl (inr k)) = absurd k.1
    to (inr k) = own ((says_split (run_table content.run) many n place).0 (subst (λ c. Says (text_table c) n place) (spells_unique k.1 spells) k.2))

    from : Says sources n place → SaysOfText text n place
    from s = inr (content, spells, (says_split (run_table content.run) many n place).1 (inr (fine, inr (few_enough, s))))

module _ (text : List ℕ) (content : Content) (spells : Spells text content) (fine : Silent (run_table content.run)) (few : length content.entries ≤ most_sources) (small : cells_of content.run ≤ most_cells) where
  pub text_at_fault : (input : Result Input Refusal) → TextPromise text input → (n : ℕ) (place : Place) → (says_text input ≡ refused n place) ↔ AtFault (periods_of content.entries) (weights_of content.entries) (phases_of content.entries) n place
  text_at_fault input h n place = Iff.trans (text_refused text input h n place) (says_at_fault text content spells fine few small n place)

  -- And of what is printed of it.
  pub report_at_fault : (output : Output) → ReportPromise text output → (n : ℕ) (place : Place) → (printed_by output ≡ refusal_report n place) ↔ AtFault (periods_of content.entries) (weights_of content.entries) (phases_of content.entries) n place
  report_at_fault output h n place = Iff.trans (report_refused text output h n place) (says_at_fault text content spells fine few small n place)
