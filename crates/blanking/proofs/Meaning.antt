-- What a blanking list means, over the promises alone: the lines that it lists are the blanked ones, and of a map that the plain map call
-- has made these are the lines that the sources disturb. Of the map crate only its definition and its promise are used. Assumes nothing.
use Prim.Native.Nat.{ℕ, zero, suc, ◌+◌, ◌-◌, ◌*◌, ◌≤◌, ◌<◌}
use native.Mathlib.Decide.{dec_le}
use native.Mathlib.Nat.{add-zero, add-suc, suc-add}
use native.Mathlib.Omega.{arith}
use mathlib.Core.Path.{◌≡◌, sym, ap, ◌∙◌}
use mathlib.Core.Logic.Iff
use mathlib.Core.Logic.{◌↔◌, inl, inr}
use mathlib.Core.List.{List, [], ◌∷◌, ◌++◌}
use lib.ListN.{length, get_or}
use Rattle.scope.specs.declared.Run.{Run}
use Rattle.scope.specs.Run.{lines_of, cells_of}
use Rattle.scope.proofs.Judged.{Passes, said_answered, grant_stored}
use Rattle.scope.proofs.Limits.{passes_first, passes_then}
use Rattle.scope.proofs.Differs.{same}
use Rattle.sources.specs.Entry.{entries_of}
use Rattle.map.specs.Sum.{capped, summed}
use Rattle.map.specs.Promise.{map_tests, weight_at, made, MakingPromiseAt}
use Rattle.blanking.specs.declared.Guard.{Guard}
use Rattle.std.specs.Prelude.{Ok}
use Rattle.blanking.specs.declared.Stretch.{Stretch}
use Rattle.blanking.specs.Stretches.{Blanked, AllMaximal, InOne, MaximalStretches}
use Rattle.blanking.specs.Promise.{asked_tests, blanking_tests, numbers_of, written, BlankingPromise}
use Rattle.blanking.specs.Meaning.{ListedIn, Disturbed}
use Rattle.blanking.proofs.Stretches.{stretches_from, from_few, from_end}
use Rattle.blanking.proofs.Guarding.{blanked_inside}

-- ---- the lines listed are the blanked ones

-- a line of a maximal stretch is so
one_so : (So : ℕ → Type 0) (stretches : List Stretch) → AllMaximal So stretches → (j : ℕ) → InOne stretches j → So j
one_so So [] m j i = absurd i
one_so So (s ∷ stretches) m j (inl i) = m.0.each j i
one_so So (s ∷ stretches) m j (inr i) = one_so So stretches m.1 j i

-- the numbers of stretches, one after the other, list the lines of these
listed_one : (stretches : List Stretch) (rest : List ℕ) (j : ℕ) → ListedIn (numbers_of stretches ++ rest) (length stretches) j ↔ InOne stretches j
unfolding numbers_of
listed_one [] rest j = (λ l. absurd (omega (arith, l.1)), λ i. absurd i)
listed_one (s ∷ stretches) rest j = let others = listed_one stretches rest j in (λ l. to others l.0 l.1 (l.2, l.3), from others)
  where
    more : List ℕ
    more = numbers_of stretches ++ rest

    -- the numbers of the next stretch stand two places on
    even : (k : ℕ) → get_or (s.first ∷ s.last ∷ more) (2 * suc k) 0 ≡ get_or more (2 * k) 0
    even k = let e : 2 * suc k ≡ suc (suc (2 * k)) = omega arith in rw e

    odd : (k : ℕ) → get_or (s.first ∷ s.last ∷ more) (2 * suc k + 1) 0 ≡ get_or more (2 * k + 1) 0
    odd k = let e : 2 * suc k + 1 ≡ suc (suc (2 * k + 1)) = omega arith in rw e

    to : ListedIn more (length stretches) j ↔ InOne stretches j → (k : ℕ) → k < suc (length stretches) → (get_or (s.first ∷ s.last ∷ more) (2 * k) 0 ≤ j) × (j ≤ get_or (s.first ∷ s.last ∷ more) (2 * k + 1) 0) → InOne (s ∷ stretches) j
    to others zero h l = inl l
    to others (suc k) h l = inr (others.0 (k, omega arith, rw (even k) at l.0, rw (odd k) at l.1))

    from : ListedIn more (length stretches) j ↔ InOne stretches j → InOne (s ∷ stretches) j → ListedIn (s.first ∷ s.last ∷ more) (suc (length stretches)) j
    from others (inl i) = (0, omega arith, i.0, i.1)
    from others (inr i) = let l = others.1 i in (suc l.0, omega (arith, l.1), rw (even l.0) l.2, rw (odd l.0) l.3)

module _ {run : Run} {map : List ℕ} {threshold : ℕ} {guard : Guard} {room after : List ℕ} {count : ℕ} (h : BlankingPromise run map threshold guard room (Ok count) after) where
  -- a call that is done has passed its tests
  pub done_passes : Passes (blanking_tests run map threshold guard room h.stretches)
  done_passes = (said_answered (blanking_tests run map threshold guard room h.stretches) h.says).0

  -- so its map is of the run's length
  pub done_whole : length map ≡ cells_of run
  unfolding blanking_tests asked_tests
  done_whole = same (length map) (cells_of run) (passes_then (passes_first done_passes))

  -- The lines in the stretches that the call wrote are the lines with a guard cell at or above the threshold.
  pub listed_blanked : (j : ℕ) → ListedIn after count j ↔ Blanked run map threshold guard j
  unfolding written
  listed_blanked j =
      let stretches = h.stretches in
      let many : count ≡ length stretches = (said_answered (blanking_tests run map threshold guard room stretches) h.says).1 in
      let wrote : after ≡ written stretches room = h.stores ∙ sym (grant_stored room (written stretches room) done_passes) in
      rw (many, wrote) (Iff.trans (listed_one stretches _ j) (one_so (Blanked run map threshold guard) stretches h.are.maximal j, h.are.every j))

-- A room of one number more than the run has lines holds every blanking list of it.
pub stretches_few : (run : Run) (map : List ℕ) (threshold : ℕ) (guard : Guard) {stretches : List Stretch} → MaximalStretches (Blanked run map threshold guard) stretches → 2 * length stretches ≤ suc (lines_of run)
unfolding lines_of
stretches_few run map threshold guard {stretches} m = go (dec_le run.first (suc run.last))
  where
    last : (j : ℕ) → Blanked run map threshold guard j → j < suc run.last
    last j b = omega (arith, (blanked_inside j b).1)

    first : (j : ℕ) → Blanked run map threshold guard j → run.first ≤ j
    first j b = (blanked_inside j b).0

    go : Dec (run.first ≤ suc run.last) → 2 * length stretches ≤ suc (suc run.last - run.first)
    go (yes some) = omega (arith, from_few (Blanked run map threshold guard) stretches last (omega arith) (stretches_from (Blanked run map threshold guard) first m))
    go (no none) = omega (arith, ap length (from_end (Blanked run map threshold guard) stretches (λ j b. absurd (omega (arith, first j b, last j b))) (stretches_from (Blanked run map threshold guard) first m)))

-- ---- the blanked lines of a map made by the plain map call

-- a cell of such a map
summed_cell : (c : ℕ) (gain : ℕ → ℕ) (x n k : ℕ) → k < n → get_or (summed c gain x n) k 0 ≡ capped c (gain (x + k))
unfolding summed
summed_cell c gain x zero k h = absurd (omega arith)
summed_cell c gain x (suc n) zero h = rw (add-zero x)
summed_cell c gain x (suc n) (suc k) h = rw (add-suc, ← suc-add) (summed_cell c gain (suc x) n k (omega arith))

module _ {c : ℕ} {run : Run} {periods weights phases lent map : List ℕ} (makes : MakingPromiseAt c run periods weights phases lent (Ok tt) map) where
  -- what its cells hold
  made_cell : (x : ℕ) → x < cells_of run → get_or map x 0 ≡ capped c (weight_at run (entries_of periods weights phases) x)
  unfolding made
  made_cell x inside =
      let entries = entries_of periods weights phases in
      let passes = (said_answered (map_tests c run periods weights phases lent) makes.says).0 in
      let is : map ≡ made c run entries = makes.stores ∙ sym (grant_stored lent (made c run entries) passes) in
      let none : 0 + x ≡ x = omega arith in
      ap (λ l. get_or l x 0) is ∙ summed_cell c (weight_at run entries) 0 (cells_of run) x inside ∙ rw none

  -- Of a map that the plain call made, and a threshold up to the ceiling: a line has a guard cell at or above the threshold exactly if the
  -- weights of the hits of a guard cell of it sum to the threshold or more.
  pub blanked_disturbed : (threshold : ℕ) → threshold ≤ c → (guard : Guard) (j : ℕ) → Blanked run map threshold guard j ↔ Disturbed run (entries_of periods weights phases) threshold guard j
  blanked_disturbed threshold low guard j = (
    λ b. record { cell = b.cell; guarded = b.guarded; sums = omega (arith, made_cell b.cell b.guarded.inside, b.reaches) },
    λ d. record { cell = d.cell; guarded = d.guarded; reaches = omega (arith, made_cell d.cell d.guarded.inside, d.sums) },
  )

  -- So a line is in a stretch of the list exactly if some guard cell of it has weights of its hits that sum to the threshold or more.
  pub listed_disturbed : {threshold : ℕ} → threshold ≤ c → {guard : Guard} {room after : List ℕ} {count : ℕ} → BlankingPromise run map threshold guard room (Ok count) after → (j : ℕ) → ListedIn after count j ↔ Disturbed run (entries_of periods weights phases) threshold guard j
  listed_disturbed {threshold} low {guard} h j = Iff.trans (listed_blanked h j) (blanked_disturbed threshold low guard j)
