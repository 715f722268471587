-- `map::add_chosen` meets its contract. The loop's invariant: the chosen sources from k on, added to the map as it is, make what all
-- chosen sources make of the map as it was. Assumes nothing.
use native.Mathlib.Omega.{arith}
use native.Mathlib.Numerals.{add-one}
use mathlib.Core.Path.{◌≡◌, refl, sym, ap, ◌∙◌}
use mathlib.Core.List.{List, [], ◌∷◌}
use Prim.Native.Nat.{ℕ, suc, ◌≤◌, ◌<◌, ◌+◌}
use lib.ListN.{length, drop, drop_of_length-le}
use Rattle.std.specs.Prelude.{Some}
use Rattle.std.specs.List.{slice_get}
use Rattle.scope.specs.declared.Run.{Run}
use Rattle.scope.specs.Run.{ceiling}
use Rattle.sources.specs.declared.Entry.{Entry}
use Rattle.sources.proofs.Entries.{entries_on}
use Rattle.map.specs.Promise.{added}
use Rattle.map.specs.Inner.{chosen}
use Rattle.map.proofs.Entries.{ValidEntry, valid_entries, added_append, added_none, added_length, added_within, chosen_cons, chosen_low, chosen_high}
use Rattle.map.proofs.add_chosen.Goals as goal
use Rattle.map.proofs.add_chosen.Goals.{then-low-entry+then-entry-high, else-low-entry, else-low-entry-via-then-low-entry+else-entry-high, else-low-entry-via-else-low-entry}
use Rattle.map.proofs.add_chosen.Invariants.{Left}

module _ {run : Run} {sources : List Entry} {low high : ℕ} {map₀ map : List ℕ} {k : ℕ} (left : Left run sources low high map₀ map k) where
  module _ {e : Entry} (here : slice_get sources k ≡ Some e) where
    these : drop k sources ≡ e ∷ drop (suc k) sources
    these = entries_on sources k e here

    valid_here : ValidEntry ceiling e
    valid_here = (rw these at left.valid).0

    -- an entry is passed over
    pass : chosen low high (e ∷ drop (suc k) sources) ≡ chosen low high (drop (suc k) sources) → Left run sources low high map₀ map (k + 1)
    pass f =
        record {
          valid = rw (add-one k) (rw these at left.valid).1;
          as_long = left.as_long;
          small = left.small;
          same = rw (add-one k, ← f, ← these) left.same;
        }

    -- the entry is added
    add : {map' : List ℕ} → low ≤ e.source.period → e.source.period < high → map' ≡ added ceiling run (e ∷ []) map → Left run sources low high map₀ map' (k + 1)
    add {map'} lower upper f =
        let rest = drop (suc k) sources in
        let more : added ceiling run (chosen low high rest) map' ≡ added ceiling run (chosen low high (drop k sources)) map =
        rw f (added_append ceiling run (e ∷ []) (chosen low high rest) map ∙ ap (λ l. added ceiling run l map) (sym (chosen_cons low high e rest lower upper) ∙ ap (chosen low high) (sym these))) in
        record {
          valid = rw (add-one k) (rw these at left.valid).1;
          as_long = rw f (added_length ceiling run (e ∷ []) map) ∙ left.as_long;
          small = rw f (added_within ceiling run (e ∷ []) map);
          same = rw (add-one k) (more ∙ left.same);
        }

  -- no entry is left
  all : length sources ≤ k → map ≡ added ceiling run (chosen low high sources) map₀
  unfolding chosen
  all h = sym (added_none ceiling run map left.small) ∙ rw (drop_of_length-le sources h) at left.same

pub loop-k-init : goal.loop-k-init
loop-k-init c =
    let p = c.requires in
    record {
      valid = valid_entries ceiling 1 _ (record { is = p.sound });
      as_long = refl;
      small = λ i. omega (arith, c.type_inv.map i);
      same = refl;
    }

pub add_source-requires : goal.add_source-requires
add_source-requires c =
    let left = c.loop-k.invariant in
    let p = c.requires in
    (p.valid, valid_here left c.entry-entry.ensures, left.as_long ∙ p.whole)

pub loop-k-preserved : goal.loop-k-preserved
loop-k-preserved c =
    let left = c.loop-k.invariant in
    let here = c.entry-entry.ensures in
    elim c.if-low-entry.branch [
      | then-low-entry+then-entry-high w ↦
          add left here w.if-low-entry.true w.if-entry-high.true (w.map-is ∙ w.add_source.ensures)
      | else-low-entry w ↦
          rw w.map-is (pass left here (elim w.else-low-entry.branch [
            | else-low-entry-via-then-low-entry+else-entry-high w' ↦ chosen_high _ _ _ _ w'.if-entry-high.false
            | else-low-entry-via-else-low-entry w' ↦ chosen_low _ _ _ _ w'.if-low-entry.false
          ]))
    ]

pub returns : goal.returns
returns c = all c.loop-k.invariant (omega arith)
