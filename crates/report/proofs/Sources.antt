-- The lines of the sources: how many hits each has, and that they are written one after the other. Assumes nothing.
use Rattle.std.specs.Prelude.{Some, None, Result, Ok}
use Rattle.std.specs.List.{slice_get}
use Prim.Native.Nat.{ℕ, zero, suc, ◌+◌, ◌-◌, ◌≤◌, min}
use native.Mathlib.Omega.{arith}
use native.Mathlib.Numerals.{add-one}
use mathlib.Core.Path.{◌≡◌, sym, ap, ◌∙◌, subst}
use mathlib.Core.List.{List, [], ◌∷◌, ◌++◌}
use lib.ListN.{length, drop, drop_of_length-le}
use borrow.Author.Tests.{ne_eqb, lt-leb}
use Rattle.scope.specs.declared.Run.{Run}
use Rattle.scope.specs.declared.RunCell.{RunCell}
use Rattle.scope.specs.declared.Source.{Source}
use Rattle.scope.specs.Run.{ValidRun, ValidSource, ceiling, cells_of}
use Rattle.scope.specs.Hit.{hits_from}
use Rattle.sources.specs.declared.Entry.{Entry}
use Rattle.scope.proofs.Judged.{Passes, sound, both, grant_reply}
use Rattle.scope.proofs.Limits.{valid_run_passes, valid_source_passes, window_cells}
use Rattle.scope.proofs.Hits.{length_hits}
use Rattle.hits.specs.declared.Listing.{Listing}
use Rattle.scope.specs.declared.Refusal.{Refusal}
use Rattle.hits.specs.Promise.{first_hit_tests, listing_tests, listed, ListingPromise}
use Rattle.hits.proofs.Unique.{says_listing_injective}
use Rattle.sources.specs.Lists.{ValidEntries}
use Rattle.sources.proofs.Entries.{entries_on, valid_entries}
use Rattle.text.specs.declared.Input.{Input}
use Rattle.text.specs.Promise.{sources_in}
use Rattle.report.specs.Report.{entry_report, src_report}
use Rattle.report.specs.Inner.{ValidInput}

-- ---- how many hits a source has

pub hits_few : (run : Run) (source : Source) → length (hits_from run source 0) ≤ cells_of run
unfolding hits_from
hits_few run source = omega (arith, length_hits run source 0 (cells_of run - 0))

-- a room as long as there are cells takes all hits in one call
pub all_listed : {run : Run} {source : Source} {start : RunCell} {room : List ℕ} {r : Result Listing Refusal} {after : List ℕ} → ValidRun run → ValidSource source → start.0 ≡ 0
    → cells_of run ≤ length room → ListingPromise run source start room r after → r ≡ Ok (record { count = length (hits_from run source 0); next = None })
unfolding listing_tests first_hit_tests listed
all_listed {run} {source} {start} {room} {r} v s first long p =
    let some_cell = window_cells v in
    let passes : Passes (listing_tests run source start room) =
    both
    (both (both (valid_run_passes v) (valid_source_passes s)) (sound (lt-leb (cells_of run) start.0 (omega (arith, v.narrow)))))
    (sound (ne_eqb (length room) 0 (λ e. omega (arith, v.narrow)))) in
    let hits = hits_from run source 0 in
    let few = hits_few run source in
    let all : min (length room) (length hits) ≡ length hits = omega arith in
    let none_left : drop (length room) hits ≡ [] = drop_of_length-le hits {i = length room} (omega arith) in
    says_listing_injective r (Ok (record { count = length hits; next = None }))
    (p.says ∙ sym (grant_reply _ passes) ∙ rw (first, all, none_left))

-- what a call answers has one count
pub count_same : {r : Result Listing Refusal} (a b : Listing) → r ≡ Ok a → r ≡ Ok b → a.count ≡ b.count
count_same a b p q =
    let e : ◌≡◌ {A = Result Listing Refusal} (Ok a) (Ok b) = sym p ∙ q in
    let same : a ≡ b = cc in
    ap (λ l. l.count) same

-- ---- one line after the other

-- the source with k before it, and those after it
pub from_source : (run : Run) (entries : List Entry) (k : ℕ) (e : Entry) → slice_get entries k ≡ Some e
    → src_report run (k + 1) (drop k entries) ≡ entry_report run (k + 1) e ++ src_report run (k + 1 + 1) (drop (k + 1) entries)
unfolding src_report
from_source run entries k e h = rw (entries_on entries k e h, add-one (k + 1), add-one k)

pub no_source : (run : Run) (entries : List Entry) (k : ℕ) → length entries ≤ k → src_report run (k + 1) (drop k entries) ≡ []
unfolding src_report
no_source run entries k h = rw (drop_of_length-le entries h)

-- it is within the limits, as all are
pub source_valid : {input : Input} (k : ℕ) (e : Entry) → ValidInput input → slice_get (sources_in input) k ≡ Some e → ValidSource e.source
source_valid {input} k e a h = go (sources_in input) k (valid_entries ceiling 1 (sources_in input) (record { is = a.sound })) h
  where
    go : (entries : List Entry) (k : ℕ) → ValidEntries ceiling entries → slice_get entries k ≡ Some e → ValidSource e.source
    go [] k v h = cc
    go (f ∷ entries) zero v h = let same : f ≡ e = cc in subst (λ g. ValidSource g.source) same v.0.source
    go (f ∷ entries) (suc k) v h = go entries k v.1 h
