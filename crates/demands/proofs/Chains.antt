-- A chain of listing calls: what each call leaves to the next, so that together they list the block's hits.
-- What is kept: the hits from the chain's start are what the call writes, then the hits from the cell that it says to go on
-- from. Assumes nothing.
use Prim.Native.Nat.{ℕ, zero, suc, ◌-◌, ◌≤◌, ◌<◌, min, max}
use native.Mathlib.Omega.{arith}
use mathlib.Core.Path.{◌≡◌, refl, sym, ap, ◌∙◌}
use mathlib.Core.Logic.{◌⊎◌, inl, inr}
use mathlib.Core.Bool.{true, false}
use mathlib.Core.List.{List, [], ◌∷◌, ◌++◌, map-append}
use mathlib.Core.Option.{Option, some, none}
use lib.ListN.{length, take, drop, length-take, length-drop, take-append-drop}
use lib.Seq.{take_at}
use borrow.Author.Tests.{eqb-false, ne_eqb, lt-leb}
use Rattle.std.specs.Prelude.{Option as Option·code, Some, None, Result, Ok, Err}
use Rattle.scope.specs.declared.Run.{Run}
use Rattle.scope.specs.declared.Source.{Source}
use Rattle.scope.specs.declared.RunCell.{RunCell}
use Rattle.scope.specs.declared.BlockCell.{BlockCell}
use Rattle.scope.specs.Run.{ValidRun, ValidSource, cells_of}
use Rattle.scope.specs.Hit.{is_hit, hits_from}
use Rattle.scope.specs.declared.Refusal.{Refusal}
use Rattle.scope.specs.Refusal.{complaint, number}
use Rattle.scope.specs.declared.Place.{Place}
use Rattle.scope.specs.Reply.{refused, answered, reply, stored}
use Rattle.scope.proofs.Judged.{Passes, both, sound}
use Rattle.scope.proofs.Limits.{passes_then, passes_when, valid_run_passes, valid_source_passes}
use Rattle.scope.proofs.Hits.{hit_hits, hit_or_miss, hits_at, hits_over}
use Rattle.hits.specs.declared.Listing.{Listing}
use Rattle.hits.specs.Promise.{first_hit_tests, listing_tests, first, Listed, says_listing, listed, written, ListingPromise}
use Rattle.demands.specs.FirstHit.{IsFirstHit}
use Rattle.demands.specs.Listing.{all_listed, more_from, Chain, done, more, block_cells, list_of, calls_of, Mores, none_yet, one_more, Lends}
use Rattle.demands.proofs.FirstHits.{first_is}
use Rattle.demands.proofs.SomeReply.{listing_exists}

-- ---- the hits from a hit on

module _ (run : Run) (source : Source) where
  -- no hit is passed over on the way to the first
  hits_first : {x y : ℕ} → IsFirstHit run source x y → hits_from run source x ≡ hits_from run source y
  hits_first {x} {y} f = hits_over run source x y f.from (λ z h l. go z h l (hit_or_miss (is_hit run source z)))
    where
      go : (z : ℕ) → x ≤ z → z < y → (is_hit run source z ≡ true) ⊎ (is_hit run source z ≡ false) → is_hit run source z ≡ false
      go z h l (inl e) = absurd (f.least z h l ((hit_hits run source z).0 e))
      go z h l (inr e) = e

  -- y is the next hit after k of those from x on
  pub record GoesOn (k x y : ℕ) : Type 0 where
    pub inside : y < cells_of run
    pub rest : drop k (hits_from run source x) ≡ hits_from run source y

  goes_first : (x y : ℕ) → first (hits_from run source x) ≡ some y → GoesOn 0 x y
  goes_first x y e = let f = (first_is run source x y).0 e in record { inside = f.inside; rest = hits_first f }

  -- after a list's head come the hits from the next cell on
  hits_tail : (x h : ℕ) (t : List ℕ) → hits_from run source x ≡ h ∷ t → t ≡ hits_from run source (suc h)
  hits_tail x h t e =
      let f = (first_is run source x h).0 (rw e) in
      let a = hits_at run source h f.inside ((hit_hits run source h).1 f.hit) in
      let s = hits_first f in
      cc

  goes_on : (k x y : ℕ) → first (drop k (hits_from run source x)) ≡ some y → GoesOn k x y
  goes_on zero x y e = goes_first x y e
  goes_on (suc k) x y e = go (hits_from run source x) refl (λ z. goes_on k z y) e
    where
      go : (l : List ℕ) → hits_from run source x ≡ l → ((z : ℕ) → first (drop k (hits_from run source z)) ≡ some y → GoesOn k z y) → first (drop (suc k) l) ≡ some y → GoesOn (suc k) x y
      go [] i f e = absurd (let z : ◌≡◌ {A = ℕ} 0 1 = cc in omega arith)
      go (h ∷ t) i f e =
          let s = hits_tail x h t i in
          let g = f (suc h) (rw s at e) in
          record { inside = g.inside; rest = rw (i, s) g.rest }

-- ---- one call

-- as many numbers as were written are read back
read_back : (hits room : List ℕ) → take (min (length room) (length hits)) (written hits room) ≡ take (length room) hits
unfolding written
read_back hits room = take_at (take (length room) hits) (drop (length hits) room) (min (length room) (length hits)) (length-take (length room) hits)

module _ (block : Run) (source : Source) (start : RunCell) (room : List ℕ) where
  -- what an answer of the listing call tells: there was room, what was written, and what is next
  record Told (after : List ℕ) (n : ℕ) (next : Option ℕ) : Type 0 where
    some_room : 1 ≤ length room
    wrote : take n after ≡ take (length room) (hits_from block source start.0)
    goes : next ≡ first (drop (length room) (hits_from block source start.0))

  had_room : Passes (listing_tests block source start room) → 1 ≤ length room
  unfolding listing_tests
  had_room p = let e = eqb-false (length room) 0 (passes_when (passes_then p)) in omega (arith, e)

  told : (after : List ℕ) (r : Result Listing Refusal) (n : ℕ) (next : Option ℕ) → ListingPromise block source start room r after → says_listing r ≡ answered (record { count = n; next = next }) → Told after n next
  unfolding listed
  told after r n next h e = go (complaint (listing_tests block source start room)) refl (sym e ∙ h.says) h.stores
    where
      hits : List ℕ
      hits = hits_from block source start.0

      go : (o : Option Refusal) → complaint (listing_tests block source start room) ≡ o → answered (record { count = n; next = next }) ≡ reply o (listed hits room) → after ≡ stored o room (written hits room) → Told after n next
      go (some c) i e k = absurd (let z : ◌≡◌ {A = ℕ} 0 1 = cc in omega arith)
      go none i e k =
          let same : record { count = n; next = next } ≡ listed hits room = cc in
          let counted : n ≡ min (length room) (length hits) = ap (λ (l : Listed). l.count) same in
          record {
            some_room = had_room (record { is = i });
            wrote = rw (counted, k) (read_back hits room);
            goes = ap (λ (l : Listed). l.next) same;
          }

-- ---- a chain

-- no hit after the room is full: all were written
all_taken : (k : ℕ) (l : List ℕ) → none ≡ first (drop k l) → take k l ≡ l
all_taken zero [] e = refl
all_taken zero (x ∷ l) e = absurd (let z : ◌≡◌ {A = ℕ} 0 1 = cc in omega arith)
all_taken (suc k) [] e = refl
all_taken (suc k) (x ∷ l) e = rw (all_taken k l e)

-- a hit after that: there are more than were written
more_left : (k : ℕ) (l : List ℕ) {y : ℕ} → some y ≡ first (drop k l) → k < length l
more_left zero [] e = absurd (let z : ◌≡◌ {A = ℕ} 0 1 = cc in omega arith)
more_left zero (x ∷ l) e = omega arith
more_left (suc k) [] e = absurd (let z : ◌≡◌ {A = ℕ} 0 1 = cc in omega arith)
more_left (suc k) (x ∷ l) e = omega (arith, more_left k l e)

-- a call that says "more from" leaves fewer hits, from that cell on
record Left (block : Run) (source : Source) (start : RunCell) (room after : List ℕ) (n : ℕ) (next : RunCell) : Type 0 where
  wrote : take n after ≡ take (length room) (hits_from block source start.0)
  rest : drop (length room) (hits_from block source start.0) ≡ hits_from block source next.0
  inside : next.0 < cells_of block
  some : 1 ≤ length (hits_from block source next.0)
  fewer : length (hits_from block source next.0) < length (hits_from block source start.0)

left : {block : Run} {source : Source} {start next : RunCell} {room after : List ℕ} {n : ℕ} → ListingPromise block source start room (more_from n next) after → Left block source start room after n next
left {block} {source} {start} {next} {room} {after} {n} h =
    let t = told block source start room after (more_from n next) n (some next.0) h refl in
    let g = goes_on block source (length room) start.0 next.0 (sym t.goes) in
    let m = more_left (length room) (hits_from block source start.0) t.goes in
    let size : length (hits_from block source next.0) ≡ length (hits_from block source start.0) - length room = rw (← g.rest) (length-drop (length room) (hits_from block source start.0)) in
    record { wrote = t.wrote; rest = g.rest; inside = g.inside; some = omega arith; fewer = omega arith }

-- "more from" names a cell of the block
pub goes_inside : {block : Run} {source : Source} {start next : RunCell} {room after : List ℕ} {n : ℕ} → ListingPromise block source start room (more_from n next) after → next.0 < cells_of block
goes_inside h = (left h).inside

-- The list of a chain is the list of the hits from its start on.
pub chain_lists : {block : Run} {source : Source} {start : RunCell} (chain : Chain block source start) → list_of chain ≡ block_cells (hits_from block source start.0)
chain_lists {block} {source} {start} (done room after n promise) =
    let t = told block source start room after (all_listed n) n none promise refl in
    ap block_cells (t.wrote ∙ all_taken (length room) (hits_from block source start.0) t.goes)
chain_lists {block} {source} {start} (more room after n next promise rest) =
    let l = left promise in
    let hits = hits_from block source start.0 in
    let both : take n after ++ hits_from block source next.0 ≡ hits = rw (l.wrote, ← l.rest) (take-append-drop (length room) hits) in
    ap (λ (cells : List BlockCell). block_cells (take n after) ++ cells) (chain_lists rest) ∙ sym (map-append (λ x. record { 0 = x }) (take n after) (hits_from block source next.0)) ∙ ap block_cells both

-- A chain has no more calls than there are hits, or one if there are none.
pub few_calls : {block : Run} {source : Source} {start : RunCell} (chain : Chain block source start) → calls_of chain ≤ max 1 (length (hits_from block source start.0))
few_calls (done room after n promise) = omega arith
few_calls (more room after n next promise rest) = let l = left promise in omega (arith, few_calls rest)

-- Calls that all say "more" are fewer than the hits, or none where there is no hit.
pub few_mores : {block : Run} {source : Source} {start : RunCell} {calls : ℕ} → Mores block source start calls → calls < max 1 (length (hits_from block source start.0))
few_mores none_yet = omega arith
few_mores (one_more room after n next promise rest) = let l = left promise in omega (arith, few_mores rest)

-- ---- such a chain exists

-- a call within the limits passes its tests
pub accepted : {block : Run} {source : Source} → ValidRun block → ValidSource source → (start : RunCell) → start.0 < cells_of block → (room : List ℕ) → 1 ≤ length room → Passes (listing_tests block source start room)
unfolding listing_tests first_hit_tests
accepted {block} {source} v w start inside room lent =
    both (both (both (valid_run_passes v) (valid_source_passes w)) (sound (lt-leb (cells_of block) start.0 inside))) (sound (ne_eqb (length room) 0 (λ e. omega arith)))

-- it is not refused
pub not_refused : {block : Run} {source : Source} → ValidRun block → ValidSource source → (start : RunCell) → start.0 < cells_of block → (room : List ℕ) → 1 ≤ length room → (r : Result Listing Refusal) (after : List ℕ) → ListingPromise block source start room r after → (n : ℕ) (place : Place) → says_listing r ≡ refused n place → ⊥
not_refused {block} {source} v w start inside room lent r after h n place e =
    let p = (accepted v w start inside room lent).is in
    let s : refused n place ≡ answered (listed (hits_from block source start.0) room) = sym e ∙ h.says ∙ rw p in
    let z : ◌≡◌ {A = ℕ} 0 1 = cc in
    omega arith

-- a chain that the rooms of a supply were lent to
pub record Lent (block : Run) (source : Source) (start : RunCell) (rooms : ℕ → List ℕ) : Type 0 where
  pub chain : Chain block source start
  pub lends : Lends rooms chain

-- one call, and the chain that goes on from where it stopped
lent_from : {block : Run} {source : Source} → ValidRun block → ValidSource source → (start : RunCell) → start.0 < cells_of block → (rooms : ℕ → List ℕ) → ((k : ℕ) → 1 ≤ length (rooms k)) → ((next : RunCell) → next.0 < cells_of block → length (hits_from block source next.0) < length (hits_from block source start.0) → Lent block source next (λ k. rooms (suc k))) → Lent block source start rooms
lent_from {block} {source} v w start inside rooms above rest = let o = listing_exists block source start (rooms 0) in go o.0 o.1 o.2
  where
    go : (r : Result Listing Refusal) (after : List ℕ) → ListingPromise block source start (rooms 0) r after → Lent block source start rooms
    go (Ok listing) after h = on listing.count listing.next h
      where
        on : (n : ℕ) (next : Option·code RunCell) → ListingPromise block source start (rooms 0) (Ok (record { count = n; next = next })) after → Lent block source start rooms
        on n None h = record { chain = done (rooms 0) after n h; lends = refl }
        on n (Some next) h =
            let l = left h in
            let c = rest next l.inside l.fewer in
            record { chain = more (rooms 0) after n next h c.chain; lends = (refl, c.lends) }
    go (Err refusal) after h = absurd (not_refused v w start inside (rooms 0) (above 0) (Err refusal) after h (number refusal.reason) refusal.place refl)

-- m is no less than the number of hits that are left
lent_bounded : {block : Run} {source : Source} → ValidRun block → ValidSource source → (m : ℕ) (start : RunCell) → start.0 < cells_of block → length (hits_from block source start.0) ≤ m → (rooms : ℕ → List ℕ) → ((k : ℕ) → 1 ≤ length (rooms k)) → Lent block source start rooms
lent_bounded v w zero start inside bound rooms above = lent_from v w start inside rooms above (λ next i l. absurd (omega arith))
lent_bounded v w (suc m) start inside bound rooms above =
    lent_from v w start inside rooms above (λ next i l. lent_bounded v w m next i (omega arith) (λ k. rooms (suc k)) (λ k. above (suc k)))

-- For every supply of rooms above nothing, and from every cell on, such a chain exists.
pub lent_exists : {block : Run} {source : Source} → ValidRun block → ValidSource source → (start : RunCell) → start.0 < cells_of block → (rooms : ℕ → List ℕ) → ((k : ℕ) → 1 ≤ length (rooms k)) → Lent block source start rooms
lent_exists {block} {source} v w start inside rooms above = lent_bounded v w (length (hits_from block source start.0)) start inside (omega arith) rooms above
