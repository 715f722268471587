-- Request E1: "Where a source in a list is at fault (4 or 7 so far) they also want its place, counted from 1. From then on a refusal
-- carries the reason and, where it concerns a source, that place". Of every reply that a promise admits: which place its refusal has;
-- and no two reasons share a number. Assumes nothing.
use Rattle.std.specs.Prelude.{Result, Option as Option·code}
use Rattle.scope.specs.declared.Refusal.{Refusal}
use Prim.Native.Nat.{ℕ, zero, suc, ◌+◌, ◌-◌, ◌*◌, ◌≤◌, ◌<◌}
use native.Mathlib.Omega.{arith}
use mathlib.Core.Path.{◌≡◌, refl}
use mathlib.Core.Logic.{◌⊎◌, ◌≢◌, inl, inr}
use mathlib.Core.List.{List, [], ◌∷◌, ◌++◌}
use mathlib.Core.Option.{Option, some, none}
use lib.ListN.{length}
use Rattle.scope.specs.declared.Run.{Run}
use Rattle.scope.specs.declared.Source.{Source}
use Rattle.scope.specs.declared.RunCell.{RunCell}
use Rattle.scope.specs.declared.Reason.{Reason}
use Rattle.scope.specs.declared.Place.{Place}
use Rattle.scope.specs.declared.Place.TheVariants.{Nowhere}
use Rattle.scope.specs.Run.{ceiling, cells_of}
use Rattle.scope.specs.Refusal.{number}
use Rattle.scope.specs.Reply.{refused}
use Rattle.scope.specs.Table.{Row, ◌given◌, Says, run_table}
use Rattle.scope.proofs.Judged as Judged
use Rattle.scope.proofs.Rendered.{Every, every_append, every_said}
use Rattle.sources.specs.declared.Entry.{Entry}
use Rattle.sources.specs.Entry.{entries_of}
use Rattle.sources.specs.Table.{sources_table, source_lists_table}
use Rattle.sources.proofs.Entries.{entries_few}
use Rattle.vectors.specs.declared.Steps.{Steps}
use Rattle.vectors.specs.Promise.{says_vectors, VectorsPromise}
use Rattle.hits.specs.declared.Listing.{Listing}
use Rattle.hits.specs.Promise.{says_first_hit, says_listing, FirstHitPromise, ListingPromise}
use Rattle.map.specs.Promise.{says_map, MapCallAt}
use Rattle.map.specs.Table.{map_table}
use Rattle.fileblocks.specs.FileBlock.{content_bytes}
use Rattle.fileblocks.specs.Table.{file_block_table}
use Rattle.blanking.specs.declared.Guard.{Guard}
use Rattle.blanking.specs.Promise.{says_blanking, BlankingPromise}
use Rattle.blanking.specs.Table.{blanking_table}
use Rattle.saved.specs.File.{file_blocks_for, bytes_for, file_block_at, run_of}
use Rattle.saved.specs.Promise.{says_saving, says_reading, SavingPromise, ReadingPromise}
use Rattle.saved.specs.Table.{saving_table, later_file_blocks_table, reading_table}
use Rattle.text.specs.Form.{Content}
use Rattle.text.specs.Promise.{most_sources, most_cells, Reads, says_text, TextPromise}
use Rattle.text.specs.Table.{text_table, SaysOfText}
use Rattle.text.specs.declared.Input.{Input}
use Rattle.text.proofs.Unique.{spells_unique}
use Rattle.vectors.specs.Table.{vectors_table}
use Rattle.hits.specs.Table.{first_hit_table, listing_table}
use Rattle.report.specs.declared.Output.{Output}
use Rattle.report.specs.Report.{refusal_report}
use Rattle.report.specs.Promise.{ReportPromise}
use Rattle.demands.specs.Texts.{printed_by}
use Rattle.demands.specs.Places.{RightPlace, src_count}
use Rattle.demands.proofs.Demand1.{vectors_refused, first_hit_refused, listing_refused, map_refused, blanking_refused, saving_refused, reading_refused, text_refused, report_refused}

-- No two reasons share a number.
pub numbers_apart : (a b : Reason) → number a ≡ number b → a ≡ b
numbers_apart = Judged.number_injective

-- ---- calls without a list

-- the row has no place
abbrev pub Without : ℕ → Place → Type 0
Without n place = place ≡ Nowhere

-- and so of what the table says
pub said_nowhere : (table : List Row) → Every Without table → (n : ℕ) (place : Place) → Says table n place → place ≡ Nowhere
said_nowhere table rows n place s = every_said Without table rows n place s

pub vectors_without : (p r I : ℕ) → Every Without (vectors_table p r I)
vectors_without p r I = (refl, (refl, (refl, (refl, tt))))

pub first_hit_without : (run : Run) (source : Source) (start : RunCell) → Every Without (first_hit_table run source start)
first_hit_without run source start = (refl, (refl, (refl, (refl, (refl, (refl, (refl, tt)))))))

pub listing_without : (run : Run) (source : Source) (start : RunCell) (room : List ℕ) → Every Without (listing_table run source start room)
listing_without run source start room = (refl, (refl, (refl, (refl, (refl, (refl, (refl, (refl, tt))))))))

pub blanking_without : (run : Run) (map : List ℕ) (threshold : ℕ) (guard : Guard) (room : List ℕ) → Every Without (blanking_table run map threshold guard room)
blanking_without run map threshold guard room = (refl, (refl, (refl, (refl, (refl, (refl, (refl, (refl, tt))))))))

pub saving_without : (run : Run) (map room : List ℕ) → Every Without (saving_table run map room)
saving_without run map room = (refl, (refl, (refl, (refl, (refl, tt)))))

later_without : (size : ℕ) (file : List ℕ) (n : ℕ) → Every Without (later_file_blocks_table size file n)
later_without size file zero = tt
later_without size file (suc k) =
    every_append Without (later_file_blocks_table size file k) (file_block_table (suc k) (size - content_bytes * k) (file_block_at file (suc k))) (later_without size file k) (refl, (refl, tt))

pub reading_without : (file map : List ℕ) → Every Without (reading_table file map)
reading_without file map =
    let size = bytes_for (run_of file) in
    let blocks = later_file_blocks_table size file (file_blocks_for size) in
    let rest = every_append Without blocks (9 given (length map ≢ cells_of (run_of file)) ∷ []) (later_without size file (file_blocks_for size)) (refl, tt) in
    (refl, (refl, (refl, (refl, (refl, (refl, (refl, (refl, rest))))))))

-- A refusal of the vectors call has no place.
module _ (p r I : ℕ) (steps : Steps) (h : VectorsPromise p r I steps) where
  pub vectors_placeless : (n : ℕ) (place : Place) → says_vectors steps ≡ refused n place → place ≡ Nowhere
  vectors_placeless n place e = said_nowhere (vectors_table p r I) (vectors_without p r I) n place ((vectors_refused p r I steps h n place).0 e)

-- Nor has one of the first-hit call, or of the listing: their source stands in no list.
module _ (run : Run) (source : Source) (start : RunCell) where
  module _ (r : Result (Option·code RunCell) Refusal) (h : FirstHitPromise run source start r) where
    pub first_hit_placeless : (n : ℕ) (place : Place) → says_first_hit r ≡ refused n place → place ≡ Nowhere
    first_hit_placeless n place e = said_nowhere (first_hit_table run source start) (first_hit_without run source start) n place ((first_hit_refused run source start r h n place).0 e)

  module _ (room : List ℕ) (r : Result Listing Refusal) (after : List ℕ) (h : ListingPromise run source start room r after) where
    pub listing_placeless : (n : ℕ) (place : Place) → says_listing r ≡ refused n place → place ≡ Nowhere
    listing_placeless n place e = said_nowhere (listing_table run source start room) (listing_without run source start room) n place ((listing_refused run source start room r after h n place).0 e)

-- Nor has one of the blanking call.
module _ (run : Run) (map : List ℕ) (threshold : ℕ) (guard : Guard) (room : List ℕ) (answer : Result ℕ Refusal) (after : List ℕ) (h : BlankingPromise run map threshold guard room answer after) where
  pub blanking_placeless : (n : ℕ) (place : Place) → says_blanking answer ≡ refused n place → place ≡ Nowhere
  blanking_placeless n place e = said_nowhere (blanking_table run map threshold guard room) (blanking_without run map threshold guard room) n place ((blanking_refused run map threshold guard room answer after h n place).0 e)

-- Nor has one of saving or of reading a file.
module _ (run : Run) (map room : List ℕ) (answer : Result (Unit {0}) Refusal) (after : List ℕ) (h : SavingPromise run map room answer after) where
  pub saving_placeless : (n : ℕ) (place : Place) → says_saving answer ≡ refused n place → place ≡ Nowhere
  saving_placeless n place e = said_nowhere (saving_table run map room) (saving_without run map room) n place ((saving_refused run map room answer after h n place).0 e)

module _ (file map : List ℕ) (answer : Result Run Refusal) (after : List ℕ) (h : ReadingPromise file map answer after) where
  pub reading_placeless : (n : ℕ) (place : Place) → says_reading answer ≡ refused n place → place ≡ Nowhere
  reading_placeless n place e = said_nowhere (reading_table file map) (reading_without file map) n place ((reading_refused file map answer after h n place).0 e)

-- ---- calls with a list of sources

-- 4, 7 and 22 concern a source, and no other number does
no_source : (count n : ℕ) → n ≢ 4 → n ≢ 7 → n ≢ 22 → RightPlace count n Nowhere
no_source count n a b c (inl (inl e)) = a e
no_source count n a b c (inl (inr e)) = b e
no_source count n a b c (inr e) = c e

run_placed : (count : ℕ) (run : Run) → Every (RightPlace count) (run_table run)
run_placed count run = (
  no_source count 1 (λ e. omega arith) (λ e. omega arith) (λ e. omega arith),
  (no_source count 17 (λ e. omega arith) (λ e. omega arith) (λ e. omega arith), (no_source count 18 (λ e. omega arith) (λ e. omega arith) (λ e. omega arith), (no_source count 3 (λ e. omega arith) (λ e. omega arith) (λ e. omega arith), tt))),
)

-- the sources, the first of them at place k
sources_placed : (count k : ℕ) (entries : List Entry) → 1 ≤ k → k + length entries ≤ suc count → Every (RightPlace count) (sources_table k entries)
sources_placed count k [] low high = tt
sources_placed count k (entry ∷ entries) low high =
    let inside : k ≤ count = omega arith in
    ((inl (inl refl), low, inside), ((inl (inr refl), low, inside), ((inr refl, low, inside), sources_placed count (suc k) entries (omega arith) (omega arith))))

pub map_placed : (run : Run) (periods weights phases map : List ℕ) → Every (RightPlace (length periods)) (map_table run periods weights phases map)
map_placed run periods weights phases map =
    let count = length periods in
    let entries = entries_of periods weights phases in
    let room = 9 given (length map ≢ cells_of run) ∷ [] in
    let lists = source_lists_table periods weights phases in
    let sources = sources_placed count 1 entries (omega arith) (omega (arith, entries_few periods weights phases)) in
    every_append (RightPlace count) (run_table run) (lists ++ room) (run_placed count run)
    (every_append (RightPlace count) lists room (no_source count 10 (λ e. omega arith) (λ e. omega arith) (λ e. omega arith), sources) (no_source count 9 (λ e. omega arith) (λ e. omega arith) (λ e. omega arith), tt))

text_placed : (content : Content) → Every (RightPlace (length content.entries)) (text_table content)
text_placed content =
    let count = length content.entries in
    let many = 12 given ((most_sources < count) ⊎ (most_cells < cells_of content.run)) ∷ sources_table 1 content.entries in
    every_append (RightPlace count) (run_table content.run) many (run_placed count content.run)
    (no_source count 12 (λ e. omega arith) (λ e. omega arith) (λ e. omega arith), sources_placed count 1 content.entries (omega arith) (omega arith))

-- A refusal of a map call for 4, 7 or 22 has a place between 1 and the length of the list of periods, and no other refusal has one.
module _ (run : Run) (periods weights phases map : List ℕ) {new : List ℕ} (answer : Result (Unit {0}) Refusal) (after : List ℕ) (h : MapCallAt ceiling run periods weights phases map new answer after) where
  pub map_place : (n : ℕ) (place : Place) → says_map answer ≡ refused n place → RightPlace (length periods) n place
  map_place n place e = every_said (RightPlace (length periods)) (map_table run periods weights phases map) (map_placed run periods weights phases map) n place ((map_refused run periods weights phases map answer after h n place).0 e)

-- what the table of a text says
pub says_placed : (text : List ℕ) (o : Option Content) → Reads text o → (n : ℕ) (place : Place) → SaysOfText text n place → RightPlace (src_count o) n place
says_placed text o r n place (inl s) = every_said (RightPlace (src_count o)) (11 given Reads text none ∷ []) (no_source (src_count o) 11 (λ e. omega arith) (λ e. omega arith) (λ e. omega arith), tt) n place s
says_placed text none r n place (inr s) = absurd (r s.0 s.1)
says_placed text (some content) r n place (inr s) =
    every_said (RightPlace (length content.entries)) (text_table content) (text_placed content) n place (rw (spells_unique s.1 r) at s.2)

-- The same of a text, whose `src` lines are counted.
module _ (text : List ℕ) (input : Result Input Refusal) (h : TextPromise text input) where
  pub text_place : (n : ℕ) (place : Place) → says_text input ≡ refused n place → RightPlace (src_count h.content) n place
  text_place n place e = says_placed text h.content h.reads n place ((text_refused text input h n place).0 e)

-- And of what is printed of it.
module _ (text : List ℕ) (output : Output) (h : ReportPromise text output) where
  pub report_place : (n : ℕ) (place : Place) → printed_by output ≡ refusal_report n place → RightPlace (src_count h.content) n place
  report_place n place e = says_placed text h.content h.reads n place ((report_refused text output h n place).0 e)
