-- The tests of a list of sources say what its table says, row by row; and what that is of three lists of one length. Assumes
-- nothing.
use Prim.Native.Nat.{ℕ, zero, suc, ◌+◌, ◌<◌}
use native.Mathlib.Nat.{add-zero}
use native.Mathlib.Omega.{arith}
use mathlib.Core.Path.{◌≡◌, sym, subst}
use mathlib.Core.Logic.{◌↔◌, ◌⊎◌, inl, inr}
use mathlib.Core.List.{List, [], ◌∷◌}
use lib.ListN.{length}
use Rattle.scope.specs.Run.{ceiling}
use Rattle.scope.specs.Refusal.{weight_tests}
use Rattle.scope.specs.declared.Place.{Place}
use Rattle.scope.specs.Table.{◌given◌, Says, Silent}
use Rattle.scope.proofs.Rendered.{Renders, ◌next◌, one, either, no_rows, of_source_lem, says_split}
use Rattle.scope.proofs.Table.{below, equal, unequal, period_renders, phase_renders}
use Rattle.sources.specs.declared.Entry.{Entry}
use Rattle.sources.specs.Entry.{entry_with, entries_of, entry_tests, length_tests, list_tests, source_lists_tests}
use Rattle.sources.specs.Lists.{OneLength}
use Rattle.sources.specs.Table.{BadWeight, source_table, sources_table, source_lists_table, entry_after, AtFault}

weight_renders : (weight : ℕ) → Renders (weight_tests ceiling weight) (7 given BadWeight weight ∷ [])
unfolding weight_tests
weight_renders weight = either (one (equal weight 0)) (one (below ceiling weight))

-- "source by source", each 4 before 7 and that before 22, the first of them at place k
pub sources_renders : (k : ℕ) (entries : List Entry) → Renders (list_tests ceiling k entries) (sources_table k entries)
unfolding list_tests entry_tests
sources_renders k [] = no_rows
sources_renders k (entry ∷ entries) =
    of_source_lem (period_renders entry.source.period next weight_renders entry.weight next phase_renders entry.source) next
    sources_renders (suc k) entries

-- "10, then source by source"
pub source_lists_renders : (periods weights phases : List ℕ) → Renders (source_lists_tests ceiling periods weights phases) (source_lists_table periods weights phases)
unfolding source_lists_tests length_tests
source_lists_renders periods weights phases =
    either (one (unequal (length periods) (length weights))) (one (unequal (length periods) (length phases))) next
    sources_renders 1 (entries_of periods weights phases)

-- ---- the first source at fault

-- what the source at place k breaks
at_place : (e : Entry) {k j n : ℕ} {place : Place} → k ≡ j → Says (source_table k e) n place → Says (source_table j e) n place
at_place e {n = n} {place} same s = subst (λ k. Says (source_table k e) n place) same s

-- the first source at fault, if the first of the lists is at place k
record FaultFrom (k : ℕ) (periods weights phases : List ℕ) (n : ℕ) (place : Place) : Type 0 where
  before : ℕ
  inside : before < length periods
  least : (j : ℕ) → j < before → Silent (source_table (suc j) (entry_after periods weights phases j))
  breaks : Says (source_table (k + before) (entry_after periods weights phases before)) n place

module _ (k p : ℕ) (periods : List ℕ) (w : ℕ) (weights : List ℕ) (s : ℕ) (phases : List ℕ) (n : ℕ) (place : Place) (rest : Says (sources_table (suc k) (entries_of periods weights phases)) n place ↔ FaultFrom (suc k) periods weights phases n place) where
  abbrev own : Entry
  own = entry_with p w s

  -- none before the one at fault behind it, the first being within the limits
  none_before : Silent (source_table k own) → (f : FaultFrom (suc k) periods weights phases n place) (j : ℕ) → j < suc f.before → Silent (source_table (suc j) (entry_after (p ∷ periods) (w ∷ weights) (s ∷ phases) j))
  none_before a f zero l = a
  none_before a f (suc j) l = f.least j (omega arith)

  -- what the table says is broken by the first source at fault: it is the first of all, or one behind it
  found : Says (source_table k own) n place ⊎ (Silent (source_table k own) × Says (sources_table (suc k) (entries_of periods weights phases)) n place) → FaultFrom k (p ∷ periods) (w ∷ weights) (s ∷ phases) n place
  found (inl b) = record { before = 0; inside = omega arith; least = λ j l. absurd (omega arith); breaks = at_place own (sym (add-zero k)) b }
  found (inr (a, h)) =
      let f = rest.0 h in
      record { before = suc f.before; inside = omega (arith, f.inside); least = none_before a f; breaks = at_place (entry_after periods weights phases f.before) (omega arith) f.breaks }

  -- and back, with m before it
  told : (m : ℕ) → m < length (p ∷ periods) → ((j : ℕ) → j < m → Silent (source_table (suc j) (entry_after (p ∷ periods) (w ∷ weights) (s ∷ phases) j))) → Says (source_table (k + m) (entry_after (p ∷ periods) (w ∷ weights) (s ∷ phases) m)) n place → Says (source_table k own) n place ⊎ (Silent (source_table k own) × Says (sources_table (suc k) (entries_of periods weights phases)) n place)
  told zero l least breaks = inl (at_place own (add-zero k) breaks)
  told (suc m) l least breaks =
      inr (least 0 (omega arith), rest.1 (record { before = m; inside = omega arith; least = λ j h. least (suc j) (omega arith); breaks = at_place (entry_after periods weights phases m) (omega arith) breaks }))

fault_from : (k : ℕ) (periods weights phases : List ℕ) → OneLength periods weights phases → (n : ℕ) (place : Place) → Says (sources_table k (entries_of periods weights phases)) n place ↔ FaultFrom k periods weights phases n place
unfolding entries_of
fault_from k [] weights phases e n place = (λ s. absurd s, λ f. absurd (omega (arith, f.inside)))
fault_from k (p ∷ periods) [] phases e n place = absurd (omega (arith, e.0))
fault_from k (p ∷ periods) (w ∷ weights) [] e n place = absurd (omega (arith, e.1))
fault_from k (p ∷ periods) (w ∷ weights) (s ∷ phases) e n place =
    let rest = fault_from (suc k) periods weights phases (omega (arith, e.0), omega (arith, e.1)) n place in
    let parted = says_split (source_table k (entry_with p w s)) (sources_table (suc k) (entries_of periods weights phases)) n place in (
      λ h. found k p periods w weights s phases n place rest (parted.0 h),
      λ f. parted.1 (told k p periods w weights s phases n place rest f.before f.inside f.least f.breaks),
    )

-- "source by source": what the table says of three lists is what is broken by the first source that breaks 4, 7 or 22, at its place; it
-- is the first of these that the source breaks
pub sources_at_fault : (periods weights phases : List ℕ) → OneLength periods weights phases → (n : ℕ) (place : Place) → Says (sources_table 1 (entries_of periods weights phases)) n place ↔ AtFault periods weights phases n place
sources_at_fault periods weights phases e n place =
    let whole = fault_from 1 periods weights phases e n place in (
      λ s. let f = whole.0 s in record { before = f.before; inside = f.inside; least = f.least; breaks = at_place _ (omega arith) f.breaks },
      λ f. whole.1 (record { before = f.before; inside = f.inside; least = f.least; breaks = at_place _ (omega arith) f.breaks }),
    )
