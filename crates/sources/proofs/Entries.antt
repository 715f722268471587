-- Laws of list entries: how they follow from the three lists and give them back, and what their tests tell. Assumes nothing.
use Prim.Native.Nat.{ℕ, zero, suc, ◌≤◌, ◌<◌}
use Rattle.std.specs.Prelude.{Some}
use Rattle.scope.specs.Run.{ceiling}
use Rattle.std.specs.List.{slice_get}
use mathlib.Core.Path.{◌≡◌, refl, sym, ap, ◌∙◌}
use mathlib.Core.Logic.{◌↔◌}
use mathlib.Core.List.{List, [], ◌∷◌, ◌++◌, map-append}
use lib.ListN.{length, drop, length-map, drop_of_length-le}
use lib.Seq.{drop-cons}
use native.Mathlib.Omega.{arith}
use native.Mathlib.Decide.{ℕ_discrete}
use borrow.Author.Tests.{ltb-false, eqb-false, ne_eqb, le-ltb}
use Rattle.scope.specs.Refusal.{◌and_then◌, of_source, source_tests, weight_tests}
use Rattle.scope.specs.declared.Reason.TheVariants.{Lists}
use Rattle.scope.specs.declared.Place.TheVariants.{Nowhere}
use Rattle.scope.proofs.Judged.{Fails, Passes, broken, sound, first, then, both, source_passes, no_tests}
use Rattle.scope.proofs.Differs.{differs, agrees, same}
use Rattle.scope.proofs.Limits.{passes_when, passes_first, passes_then, passes_source, valid_source, valid_source_passes}
use Rattle.sources.specs.declared.Entry.{Entry}
use Rattle.sources.specs.Entry.{entries_of, entry_tests, length_tests, list_tests, source_lists_tests}
use Rattle.sources.specs.Lists.{OneLength, periods_of, weights_of, phases_of, ValidEntries}
use Rattle.sources.specs.Table.{entry_after}

-- ---- the three lists

pub entries_length : (periods weights phases : List ℕ) → OneLength periods weights phases → length (entries_of periods weights phases) ≡ length periods
unfolding entries_of
entries_length [] weights phases e = refl
entries_length (p ∷ periods) [] phases e = absurd (omega (arith, e.0))
entries_length (p ∷ periods) (w ∷ weights) [] e = absurd (omega (arith, e.1))
entries_length (p ∷ periods) (w ∷ weights) (s ∷ phases) e = ap suc (entries_length periods weights phases (omega (arith, e.0), omega (arith, e.1)))

-- the entry there, counted from 0
pub entry_at : (periods weights phases : List ℕ) (k : ℕ) → OneLength periods weights phases → k < length periods → slice_get (entries_of periods weights phases) k ≡ Some (entry_after periods weights phases k)
unfolding entries_of
entry_at [] weights phases k e h = absurd (omega arith)
entry_at (p ∷ periods) [] phases k e h = absurd (omega (arith, e.0))
entry_at (p ∷ periods) (w ∷ weights) [] k e h = absurd (omega (arith, e.1))
entry_at (p ∷ periods) (w ∷ weights) (s ∷ phases) zero e h = refl
entry_at (p ∷ periods) (w ∷ weights) (s ∷ phases) (suc k) e h = entry_at periods weights phases k (omega (arith, e.0), omega (arith, e.1)) (omega arith)

-- the three lists of one length are what their entries give
pub periods_of_entries : (periods weights phases : List ℕ) → OneLength periods weights phases → periods_of (entries_of periods weights phases) ≡ periods
unfolding entries_of periods_of
periods_of_entries [] weights phases e = refl
periods_of_entries (p ∷ periods) [] phases e = absurd (omega (arith, e.0))
periods_of_entries (p ∷ periods) (w ∷ weights) [] e = absurd (omega (arith, e.1))
periods_of_entries (p ∷ periods) (w ∷ weights) (s ∷ phases) e = ap (λ l. p ∷ l) (periods_of_entries periods weights phases (omega (arith, e.0), omega (arith, e.1)))

pub entries_few : (periods weights phases : List ℕ) → length (entries_of periods weights phases) ≤ length periods
unfolding entries_of
entries_few [] weights phases = omega arith
entries_few (p ∷ periods) [] phases = omega arith
entries_few (p ∷ periods) (w ∷ weights) [] = omega arith
entries_few (p ∷ periods) (w ∷ weights) (s ∷ phases) = omega (arith, entries_few periods weights phases)

-- from k on, counted from 0: the entry there, and those after it
pub entries_from : (periods weights phases : List ℕ) (k : ℕ) → k < length periods → k < length weights → k < length phases → entries_of (drop k periods) (drop k weights) (drop k phases) ≡ entry_after periods weights phases k ∷ entries_of (drop (suc k) periods) (drop (suc k) weights) (drop (suc k) phases)
unfolding entries_of
entries_from periods weights phases k h h' h'' = rw (drop-cons periods k 0 h, drop-cons weights k 0 h', drop-cons phases k 0 h'')

-- entries give the three lists, and the three lists give them back
pub entries_of_lem : (entries : List Entry) → entries_of (periods_of entries) (weights_of entries) (phases_of entries) ≡ entries
unfolding entries_of periods_of weights_of phases_of
entries_of_lem [] = refl
entries_of_lem (e ∷ entries) = ap (λ es. e ∷ es) (entries_of_lem entries)

pub periods_length : (entries : List Entry) → length (periods_of entries) ≡ length entries
unfolding periods_of
periods_length entries = length-map entries (λ e. e.source.period)

pub weights_length : (entries : List Entry) → length (weights_of entries) ≡ length entries
unfolding weights_of
weights_length entries = length-map entries (λ e. e.weight)

pub phases_length : (entries : List Entry) → length (phases_of entries) ≡ length entries
unfolding phases_of
phases_length entries = length-map entries (λ e. e.source.phase)

-- so that they are of one length
pub one_length : (entries : List Entry) → OneLength (periods_of entries) (weights_of entries) (phases_of entries)
one_length entries = (periods_length entries ∙ sym (weights_length entries), periods_length entries ∙ sym (phases_length entries))

pub periods_append : (a b : List Entry) → periods_of (a ++ b) ≡ periods_of a ++ periods_of b
unfolding periods_of
periods_append a b = map-append (λ e. e.source.period) a b

pub weights_append : (a b : List Entry) → weights_of (a ++ b) ≡ weights_of a ++ weights_of b
unfolding weights_of
weights_append a b = map-append (λ e. e.weight) a b

pub phases_append : (a b : List Entry) → phases_of (a ++ b) ≡ phases_of a ++ phases_of b
unfolding phases_of
phases_append a b = map-append (λ e. e.source.phase) a b

-- ---- their tests

-- the entry at k and those after it, by what is there
pub entries_on : (entries : List Entry) (k : ℕ) (e : Entry) → slice_get entries k ≡ Some e → drop k entries ≡ e ∷ drop (suc k) entries
entries_on [] k e h = cc
entries_on (x ∷ entries) zero e h = let z : x ≡ e = cc in rw z
entries_on (x ∷ entries) (suc k) e h = entries_on entries k e h

-- the tests of the entries from one on: that one's, and those of the entries after it
pub tests_on : (entries : List Entry) (k : ℕ) (e : Entry) → slice_get entries k ≡ Some e → list_tests ceiling (suc k) (drop k entries) ≡ (of_source (suc k) (entry_tests ceiling e) and_then list_tests ceiling (suc (suc k)) (drop (suc k) entries))
unfolding list_tests
tests_on entries k e h = rw (entries_on entries k e h)

-- at the end none is left
pub tests_end : (entries : List Entry) (k : ℕ) → length entries ≤ k → Passes (list_tests ceiling (suc k) (drop k entries))
unfolding list_tests
tests_end entries k h = rw (drop_of_length-le entries h) no_tests

-- the entries that pass their tests are those within the limits
pub valid_entries : (c k : ℕ) (entries : List Entry) → Passes (list_tests c k entries) → ValidEntries c entries
unfolding list_tests entry_tests source_tests weight_tests
valid_entries c k [] p = tt
valid_entries c k (e ∷ rest) p =
    let own = passes_source (passes_first p) in
    let weight = passes_then (passes_first own) in
    let zero' = eqb-false e.weight 0 (passes_when (passes_first weight)) in (
      record { source = valid_source (both (passes_first (passes_first own)) (passes_then own)); some = omega arith; fits = ltb-false c e.weight (passes_when (passes_then weight)) },
      valid_entries c (suc k) rest (passes_then p),
    )

pub valid_entries_pass : (c k : ℕ) (entries : List Entry) → ValidEntries c entries → Passes (list_tests c k entries)
unfolding list_tests entry_tests source_tests weight_tests
valid_entries_pass c k [] v = no_tests
valid_entries_pass c k (e ∷ rest) v =
    let own = v.0 in
    let source = valid_source_passes own.source in
    let weight = both (sound (ne_eqb e.weight 0 (λ z. omega arith))) (sound (le-ltb _ _ own.fits)) in
    both (source_passes (both (both (passes_first source) weight) (passes_then source))) (valid_entries_pass c (suc k) rest v.1)

-- three lists whose lengths pass their tests are of one length
pub valid_lengths : (periods weights phases : List ℕ) → Passes (length_tests periods weights and_then length_tests periods phases) → OneLength periods weights phases
unfolding length_tests
valid_lengths periods weights phases p = (same _ _ (passes_first p), same _ _ (passes_then p))

-- and the other way round
pub lengths_pass : (periods weights phases : List ℕ) → OneLength periods weights phases → Passes (length_tests periods weights and_then length_tests periods phases)
unfolding length_tests
lengths_pass periods weights phases v = both (sound (agrees refl refl v.0)) (sound (agrees refl refl v.1))

-- and lists that are not of one length fail them
pub lengths_fail : (periods weights phases : List ℕ) → (OneLength periods weights phases → ⊥) → Fails (length_tests periods weights and_then length_tests periods phases) Lists Nowhere
unfolding length_tests
lengths_fail periods weights phases n = go (ℕ_discrete (length periods) (length weights))
  where
    go : Dec (length periods ≡ length weights) → Fails (length_tests periods weights and_then length_tests periods phases) Lists Nowhere
    go (yes e) = then (sound (agrees refl refl e)) (broken (differs refl refl (λ f. n (e, f))))
    go (no d) = first (broken (differs refl refl d))

-- and those that pass all their tests have entries that do; and the other way round
pub valid_lists : (c : ℕ) (periods weights phases : List ℕ) → Passes (source_lists_tests c periods weights phases) ↔ (OneLength periods weights phases × Passes (list_tests c 1 (entries_of periods weights phases)))
unfolding source_lists_tests
valid_lists c periods weights phases = (
  λ p. (valid_lengths periods weights phases (passes_first p), passes_then p),
  λ v. both (lengths_pass periods weights phases v.0) v.1,
)
