-- A row holds if its figure is an outcome of the promise, since no second one fits; of the saved map: if the row's length is
-- that of the run's file, and the file has it and these checks. Assumes nothing.
use Rattle.std.specs.Prelude.{Result, Ok, Err, Some, None, Option as Option·code}
use Rattle.scope.specs.declared.Refusal.{Refusal}
use Rattle.scope.specs.declared.RunCell.{RunCell}
use Prim.Native.Nat.{ℕ, ◌+◌, ◌*◌, ◌%◌, ◌≤◌, min}
use mathlib.Core.Path.{◌≡◌, refl, sym, ap, subst, subst₂, ◌∙◌}
use mathlib.Core.Bool.{true, false, not}
use mathlib.Core.List.{List, [], ◌∷◌, map}
use mathlib.Core.Option.{Option, some, none}
use native.Mathlib.Nat.{mod-mod, dvd_of_mod-eq-zero, dvd_refl, dvd-zero}
use native.Mathlib.Decide.{ℕ_discrete}
use native.Mathlib.Omega.{arith}
use borrow.Author.Tests.{ne_eqb}
use lib.Dec.{T as True, leb, ltb, eqb, lit<, ltb→lt}
use lib.IntN.{ℤ, pos, neg_ℤ, nat_abs, ◌-ℤ◌, ◌*ℤ◌}
use lib.ListN.{length, drop, drop_of_length-le}
use lib.Seq.{take_all}
use lib.Signed.{le_z, lt_z}
use Rattle.lattice.specs.Gcd.{IsGcd}
use Rattle.scope.specs.declared.Run.{Run}
use Rattle.scope.specs.Run.{run_with, cells_of, cell_of}
use Rattle.scope.specs.Hit.{hits_from}
use Rattle.scope.specs.Refusal.{◌when◌, ◌and_then◌, complaint, window_tests, line_tests, run_tests, source_tests}
use Rattle.scope.specs.declared.Reason.TheVariants.{Room}
use Rattle.scope.specs.declared.Place.TheVariants.{Nowhere}
use Rattle.scope.specs.Reply.{Said, refused, answered, reply, stored}
use Rattle.scope.proofs.Judged.{Passes, broken, sound, then, both, grant_reply, grant_stored, said_answered}
use Rattle.scope.proofs.Limits.{passes_then}
use Rattle.scope.proofs.Hits.{hits_remainder}
use Rattle.vectors.specs.Vectors.{vector, InLattice, IsPair, Values}
use Rattle.vectors.specs.Promise.{vectors_tests, says_vectors, Admits, VectorsPromise}
use Rattle.vectors.proofs.Unique.{said_unique}
use Rattle.fileblocks.specs.FileBlock.{file_block_bytes, check_at, four_at}
use Rattle.scope.proofs.Differs.{agrees, differs, same}
use Rattle.saved.specs.File.{file_length, bytes_for, file_of, saving_tests}
use Rattle.saved.specs.Promise.{says_saving, SavingPromise}
use Rattle.saved.proofs.Promises.{refuse_saving, grant_saving}
use Rattle.map.specs.Promise.{MakingPromise}
use Rattle.map.proofs.Calls.{whatever_held}
use Rattle.map.proofs.Unique.{call_unique}
use Rattle.hits.specs.declared.Listing.{Listing}
use Rattle.hits.specs.Promise.{first_hit_tests, listing_tests, first as first_of, Listed, says_listing, listed, written}
use Rattle.figures.specs.Table.{vectors, hits, mapped, saved, Holds}

-- ---- vectors

-- what fits is all that may be said
pub vectors_row : (p r I : ℕ) (figure : Said Values) → Admits (complaint (vectors_tests p r I)) p r I figure → Holds (vectors p r I figure)
unfolding VectorsPromise
vectors_row p r I figure h steps =
    let o = complaint (vectors_tests p r I) in
    (λ k. said_unique o p r I (says_vectors steps) figure k h, λ e. subst (Admits o p r I) (sym e) h)

-- a pair, by tests that compute
pub is_pair : (p r I : ℕ) (α : ℤ) (β : ℕ) (γ : ℤ) (δ : ℕ) → nat_abs (pos (r * β) -ℤ α) % p ≡ 0 → nat_abs (pos (r * δ) -ℤ γ) % p ≡ 0
    → True (ltb 0 β) → True (ltb 0 δ) → True (lt_z (neg_ℤ (pos I)) α) → True (le_z α (pos 0)) → True (le_z (pos 0) γ) → True (lt_z γ (pos I))
    → True (le_z (pos I) (γ -ℤ α)) → (pos β *ℤ γ) -ℤ (α *ℤ pos δ) ≡ pos p → IsPair p r I (vector α β) (vector γ δ)
unfolding InLattice
is_pair p r I α β γ δ a b c d e f g h i j = record {
  left_in = dvd_of_mod-eq-zero p a;
  right_in = dvd_of_mod-eq-zero p b;
  left_rises = lit< c;
  right_rises = lit< d;
  left_low = record { lt = e };
  left_high = record { le = f };
  right_low = record { le = g };
  right_high = record { lt = h };
  apart = record { le = i };
  area = j;
}

-- the greatest common divisor of p and one of its divisors, or 0
pub gcd_divisor : (r p : ℕ) → p % r ≡ 0 → IsGcd r r p
gcd_divisor r p h = record { divides_left = dvd_refl r; divides_right = dvd_of_mod-eq-zero r h; greatest = λ d a b. a }

pub gcd_zero : (p : ℕ) → IsGcd p 0 p
gcd_zero p = record { divides_left = dvd-zero p; divides_right = dvd_refl p; greatest = λ d a b. b }

-- ---- hits

abbrev count_of : Said Listed → ℕ
count_of (answered l) = l.count
count_of (refused n place) = 0

abbrev next_of : Said Listed → Option ℕ
next_of (answered l) = l.next
next_of (refused n place) = none

-- the reply "done", with so many hits written
abbrev all_listed : ℕ → Result Listing Refusal
all_listed n = Ok (record { count = n; next = None })

says_done : (n : ℕ) (r : Result Listing Refusal) → says_listing r ≡ says_listing (all_listed n) → r ≡ all_listed n
says_done n (Ok listing) e = on listing.count listing.next e
  where
    on : (m : ℕ) (next : Option·code RunCell) → says_listing (Ok (record { count = m; next = next })) ≡ says_listing (all_listed n) → Ok (record { count = m; next = next }) ≡ all_listed n
    on m None e = ap all_listed (ap count_of e)
    on m (Some cell) e = let d : some cell.0 ≡ none = ap next_of e in cc
says_done n (Err refusal) e = cc

map_pos_same : (a b : List ℕ) → map pos a ≡ map pos b → a ≡ b
map_pos_same a b e = sym (back a) ∙ ap (map nat_abs) e ∙ back b
  where
    back : (l : List ℕ) → map nat_abs (map pos l) ≡ l
    back [] = refl
    back (x ∷ xs) = ap (x ∷◌) (back xs)

module _ (p r I first last : ℕ) (figure : List (ℤ × ℕ)) (cells : List ℕ)
    (window : complaint (window_tests I) ≡ none)
    (lines : complaint (line_tests first last) ≡ none)
    (source : complaint (source_tests (record { period = p; phase = 0 })) ≡ none)
    (some_cell : (T : ℕ) → leb (cells_of (run_with I T first last)) 0 ≡ false)
    (are : hits_from (run_with I r first last) (record { period = p; phase = 0 }) 0 ≡ cells)
    (many : length cells ≡ length figure)
    (some : True (ltb 0 (length figure)))
    (at : (T : ℕ) → map pos cells ≡ map (λ hit. cell_of (run_with I T first last) hit.0 hit.1) figure) where
  -- the hits of every interval with the remainder r, and room for them
  module _ (T : ℕ) (ticks : 1 ≤ T) (remainder : T % p ≡ r) (room : List ℕ) (e : length room ≡ length figure) where
    granted : Passes (listing_tests (run_with I T first last) (record { period = p; phase = 0 }) (record { 0 = 0 }) room)
    unfolding listing_tests first_hit_tests run_tests
    granted =
        both (both (both (both (both (record { is = window }) (record { is = lines })) (sound (ne_eqb T 0 (λ z. omega arith)))) (record { is = source })) (sound (some_cell T)))
        (sound (ne_eqb (length room) 0 (λ z. omega (arith, ltb→lt 0 (length figure) some))))

    hit : hits_from (run_with I T first last) (record { period = p; phase = 0 }) 0 ≡ cells
    hit = hits_remainder (run_with I T first last) (record { period = p; phase = 0 }) r (sym (mod-mod T p) ∙ ap (λ n. n % p) remainder) 0 ∙ are

    -- the room is just used up
    whole : written cells room ≡ cells
    unfolding written
    whole =
        rw (take_all (length room) cells (omega (arith, e, many)), drop_of_length-le room {i = length cells} (omega (arith, e, many)))
        (mathlib.Core.List.append-nil cells)

    counted : listed cells room ≡ record { count = length figure; next = none }
    unfolding listed
    counted = λ i. record { count = count i; next = next i }
      where
        count : min (length room) (length cells) ≡ length figure
        count = omega (arith, e, many)

        next : first_of (drop (length room) cells) ≡ none
        next = rw (drop_of_length-le cells {i = length room} (omega (arith, e, many)))

    said : reply (complaint (listing_tests (run_with I T first last) (record { period = p; phase = 0 }) (record { 0 = 0 }) room)) (listed (hits_from (run_with I T first last) (record { period = p; phase = 0 }) 0) room) ≡ says_listing (all_listed (length figure))
    said = rw (granted.is, hit, counted)

    held : stored (complaint (listing_tests (run_with I T first last) (record { period = p; phase = 0 }) (record { 0 = 0 }) room)) room (written (hits_from (run_with I T first last) (record { period = p; phase = 0 }) 0) room) ≡ cells
    held = rw (granted.is, hit, whole)

  pub hits_row : Holds (hits p r I first last figure)
  hits_row T ticks remainder room e reply after = (
    λ h. (says_done (length figure) reply (h.says ∙ said T ticks remainder room e), ap (map pos) (h.stores ∙ held T ticks remainder room e) ∙ at T),
    λ h. record { says = ap says_listing h.0 ∙ sym (said T ticks remainder room e); stores = map_pos_same after cells (h.1 ∙ sym (at T)) ∙ sym (held T ticks remainder room e) },
  )

-- ---- maps

-- an outcome that fits one map lent, as the figure's own cells, fits every other and is the only one
pub map_row : (run : Run) (periods weights phases figure : List ℕ) → MakingPromise run periods weights phases figure (Ok tt) figure → Holds (mapped run periods weights phases figure)
map_row run periods weights phases figure h map e answer after =
    let fits = whatever_held _ run periods weights phases h (sym e) in
    (λ k. call_unique k fits, λ e. subst₂ (MakingPromise run periods weights phases map) (sym e.0) (sym e.1) fits)

-- ---- saved maps

saved_done : (answer : Result (Unit {0}) Refusal) → says_saving answer ≡ answered tt → answer ≡ Ok tt
saved_done (Ok done) e = refl
saved_done (Err refusal) e = cc

-- the room's length is the one test left, and every admitted file is the one that the layout gives
module _ (run : Run) (cells : List ℕ) (size first second : ℕ)
    (passes : complaint (run_tests run) ≡ none)
    (whole : eqb (length cells) (cells_of run) ≡ true)
    (room_size : size ≡ file_length (bytes_for run))
    (long : length (file_of run cells) ≡ size)
    (a : four_at (file_of run cells) check_at ≡ first)
    (b : four_at (file_of run cells) (file_block_bytes + check_at) ≡ second) where
  begun : Passes (run_tests run and_then Room when not (eqb (length cells) (cells_of run)))
  begun = both (record { is = passes }) (sound (ap not whole))

  granted_room : (room : List ℕ) → length room ≡ size → Passes (saving_tests run cells room)
  unfolding saving_tests
  granted_room room e = both begun (sound (agrees refl refl (e ∙ room_size)))

  sized : (room : List ℕ) → Passes (saving_tests run cells room) → length room ≡ size
  unfolding saving_tests
  sized room tests = same _ _ (passes_then tests) ∙ sym room_size

  exists : (room : List ℕ) → Dec (length room ≡ size) → (answer : Result (Unit {0}) Refusal) × (after : List ℕ) × SavingPromise run cells room answer after
  unfolding saving_tests
  exists room (yes e) = (Ok tt, file_of run cells, grant_saving (granted_room room e) refl)
  exists room (no n) = (Err (record { reason = Room; place = Nowhere }), room, refuse_saving (then begun (broken (differs refl refl (λ e. n (e ∙ sym room_size))))))

  pub saved_row : Holds (saved run cells size first second)
  saved_row room = (λ answer after h. ((to answer after h, from answer after h), holds answer after h), exists room (ℕ_discrete (length room) size))
    where
      to : (answer : Result (Unit {0}) Refusal) (after : List ℕ) → SavingPromise run cells room answer after → answer ≡ Ok tt → length room ≡ size
      to answer after h e = sized room (said_answered (saving_tests run cells room) (sym (ap says_saving e) ∙ h.says)).0

      from : (answer : Result (Unit {0}) Refusal) (after : List ℕ) → SavingPromise run cells room answer after → length room ≡ size → answer ≡ Ok tt
      from answer after h e = saved_done answer (h.says ∙ sym (grant_reply tt (granted_room room e)))

      holds : (answer : Result (Unit {0}) Refusal) (after : List ℕ) → SavingPromise run cells room answer after → answer ≡ Ok tt → (length after ≡ size) × (four_at after check_at ≡ first) × (four_at after (file_block_bytes + check_at) ≡ second)
      holds answer after h e =
          let is : after ≡ file_of run cells = h.stores ∙ sym (grant_stored room (file_of run cells) (granted_room room (to answer after h e))) in
          (ap length is ∙ long, ap (λ f. four_at f check_at) is ∙ a, ap (λ f. four_at f (file_block_bytes + check_at)) is ∙ b)
