-- Demand 3, the listing: "Cut a run's lines into consecutive blocks, in whatever way, with the same window and interval, and
-- list each source from the block's cell 0 with any room above nothing, going on where the listing stopped. Joined in line
-- order, the lists hold every hit of that source in the run once, none besides, by line and then by offset."
-- Assumes nothing.
use Rattle.std.specs.Prelude.{Result, Ok, Err, Some, None, Option}
use Rattle.scope.specs.declared.Refusal.{Refusal}
use Prim.Native.Nat.{ℕ, suc, ◌≤◌, ◌<◌, max}
use native.Mathlib.Omega.{arith}
use mathlib.Core.Path.{◌≡◌, refl, sym, ap, ap₂, ◌∙◌, subst}
use mathlib.Core.Logic.{◌↔◌}
use mathlib.Core.List.{List, [], ◌∷◌, ◌++◌, map, map-append, Memᴰ}
use lib.ListN.{length, length-map}
use lib.IntN.{ℤ}
use Rattle.scope.specs.declared.Run.{Run}
use Rattle.scope.specs.declared.Source.{Source}
use Rattle.scope.specs.declared.RunCell.{RunCell}
use Rattle.scope.specs.Refusal.{number}
use Rattle.scope.specs.Run.{ValidRun, ValidSource, InRun, cells_of, line_of, offset_of, to_run}
use Rattle.scope.specs.Hit.{Hits, hits_from}
use Rattle.scope.proofs.Limits.{window_cells}
use Rattle.scope.proofs.Numbering.{cell_order, number_cell}
use Rattle.scope.proofs.Hits.{Rising, hit_hits, hits_member, hits_rising, rising_same}
use Rattle.hits.specs.declared.Listing.{Listing}
use Rattle.hits.specs.Promise.{ListingPromise}
use Rattle.demands.specs.Cut.{Cut}
use Rattle.demands.specs.Listing.{GoesOnIn, Chain, run_cells, list_of, calls_of, Mores, Lends, Answered, Listings, LendsEach, joined, InOrder, EveryHitOnce}
use Rattle.demands.proofs.CellLists.{numbers_of, turned, numbered, cell_member, number_member}
use Rattle.demands.proofs.Chains.{chain_lists, few_calls, few_mores, goes_inside, not_refused, lent_exists}
use Rattle.demands.proofs.Cuts.{cut_valid}
use Rattle.demands.proofs.CutHits.{moved, block_hits, cut_hits}

-- ---- the joined lists

joined_blocks : (run : Run) (source : Source) (blocks : List Run) (lists : Listings source blocks) → joined run source blocks lists ≡ run_cells (block_hits run source blocks)
joined_blocks run source [] lists = refl
joined_blocks run source (block ∷ blocks) lists =
    let here : map (to_run run block) (list_of lists.0) ≡ run_cells (moved run block (hits_from block source 0)) = ap (map (to_run run block)) (chain_lists lists.0) ∙ turned run block (hits_from block source 0) in
    ap₂ (λ (a b : List RunCell). a ++ b) here (joined_blocks run source blocks lists.1) ∙ sym (map-append (λ x. record { 0 = x }) (moved run block (hits_from block source 0)) (block_hits run source blocks))

-- For every valid run, every cut of it and whatever chain of calls in each block: the joined lists are the list of the run's hits.
pub joined_is : (run : Run) (source : Source) (blocks : List Run) → ValidRun run → Cut run blocks → (lists : Listings source blocks) → joined run source blocks lists ≡ run_cells (hits_from run source 0)
joined_is run source blocks v cut lists = joined_blocks run source blocks lists ∙ ap run_cells (cut_hits v source blocks cut)

-- a strictly rising list goes by line and then by offset
in_order : {run : Run} → ValidRun run → (x : ℕ) (numbers : List ℕ) → Rising x numbers → InOrder run (run_cells numbers)
in_order v x [] r = tt
in_order v x (y ∷ []) r = tt
in_order v x (y ∷ z ∷ numbers) r = ((cell_order v y z).0 (omega arith), in_order v (suc y) (z ∷ numbers) r.1)

-- The list of the run's hits is what it is called.
pub every_hit_once : (run : Run) (source : Source) → ValidRun run → EveryHitOnce run source (run_cells (hits_from run source 0))
every_hit_once run source v = record {
  order = in_order v 0 (hits_from run source 0) (hits_rising run source 0);
  exactly = λ y.
      let in_List = cell_member y (hits_from run source 0) in (
        λ m. let h = (hits_member run source 0 y.0).0 (in_List.0 m) in (h.1, (hit_hits run source y.0).0 h.2),
        λ h. in_List.1 ((hits_member run source 0 y.0).1 (omega arith, h.0, (hit_hits run source y.0).1 h.1)),
      );
}

-- and back
in_order_rises : {run : Run} → ValidRun run → (x : RunCell) (cells : List RunCell) → InOrder run (x ∷ cells) → Rising (suc x.0) (numbers_of cells)
in_order_rises v x [] o = tt
in_order_rises v x (y ∷ cells) o = ((cell_order v x.0 y.0).1 o.0, in_order_rises v y cells o.1)

in_order_rising : {run : Run} → ValidRun run → (cells : List RunCell) → InOrder run cells → Rising 0 (numbers_of cells)
in_order_rising v [] o = tt
in_order_rising v (x ∷ cells) o = (omega arith, in_order_rises v x cells o)

-- No other list is.
pub every_hit_unique : (run : Run) (source : Source) → ValidRun run → (a b : List RunCell) → EveryHitOnce run source a → EveryHitOnce run source b → a ≡ b
every_hit_unique run source v a b h k = sym (numbered a) ∙ ap run_cells same ∙ numbered b
  where
    each : (y : ℕ) → Memᴰ y (numbers_of a) ↔ Memᴰ y (numbers_of b)
    each y =
        let cell : RunCell = record { 0 = y } in
        let in_a = number_member y a in
        let in_b = number_member y b in
        (λ m. in_b.1 ((k.exactly cell).1 ((h.exactly cell).0 (in_a.0 m))), λ m. in_a.1 ((h.exactly cell).1 ((k.exactly cell).0 (in_b.0 m))))

    same : numbers_of a ≡ numbers_of b
    same = rising_same 0 (numbers_of a) (numbers_of b) (in_order_rising v a h.order) (in_order_rising v b k.order) each

-- "the count is that of the hits by the definition above": a list with every hit once is as long as the list that hits are
-- counted by.
pub hit_count : (run : Run) (source : Source) → ValidRun run → (cells : List RunCell) → EveryHitOnce run source cells → length (hits_from run source 0) ≡ length cells
hit_count run source v cells h =
    sym (length-map (hits_from run source 0) (λ x. record { 0 = x })) ∙ ap length (every_hit_unique run source v (run_cells (hits_from run source 0)) cells (every_hit_once run source v) h)

-- "Joined in line order, the lists hold every hit of that source in the run once, none besides, by line and then by offset."
pub joined_holds : (run : Run) (source : Source) (blocks : List Run) → ValidRun run → Cut run blocks → (lists : Listings source blocks) → EveryHitOnce run source (joined run source blocks lists)
joined_holds run source blocks v cut lists = subst (EveryHitOnce run source) (sym (joined_is run source blocks v cut lists)) (every_hit_once run source v)

-- The same by offset and line: that cell of the run stands in the joined lists exactly if the source hits it.
pub joined_offsets : (run : Run) (source : Source) (blocks : List Run) → ValidRun run → Cut run blocks → (lists : Listings source blocks) (i : ℤ) (j : ℕ) → InRun run i j → Hits run source i j ↔ ((y : RunCell) × Memᴰ y (joined run source blocks lists) × (offset_of run y.0 ≡ i) × (line_of run y.0 ≡ j))
joined_offsets run source blocks v cut lists i j inside = (to, from)
  where
    holds : EveryHitOnce run source (joined run source blocks lists)
    holds = joined_holds run source blocks v cut lists

    to : Hits run source i j → (y : RunCell) × Memᴰ y (joined run source blocks lists) × (offset_of run y.0 ≡ i) × (line_of run y.0 ≡ j)
    to h =
        let c = number_cell v i j inside in
        let cell : RunCell = record { 0 = c.cell } in
        (cell, (holds.exactly cell).1 (c.fits, rw (c.offset, c.line) h), c.offset, c.line)

    from : (y : RunCell) × Memᴰ y (joined run source blocks lists) × (offset_of run y.0 ≡ i) × (line_of run y.0 ≡ j) → Hits run source i j
    from h = rw (h.2, h.3) at ((holds.exactly h.0).0 h.1).1

-- "The certificate then compares readings that don't belong together": not so. Two cuts, and whatever calls, have one list.
pub joined_same : (run : Run) (source : Source) → ValidRun run → (blocks blocks' : List Run) → Cut run blocks → Cut run blocks' → (lists : Listings source blocks) (lists' : Listings source blocks') → joined run source blocks lists ≡ joined run source blocks' lists'
joined_same run source v blocks blocks' c c' lists lists' = joined_is run source blocks v c lists ∙ sym (joined_is run source blocks' v c' lists')

-- ---- such lists exist

-- "any room above nothing": for each supply of rooms there is a chain of calls that the rooms are lent to.
pub chain_exists : (block : Run) (source : Source) → ValidRun block → ValidSource source → (rooms : ℕ → List ℕ) → ((k : ℕ) → 1 ≤ length (rooms k)) → (chain : Chain block source (record { 0 = 0 })) × Lends rooms chain
chain_exists block source v w rooms above =
    let c = lent_exists v w (record { 0 = 0 }) (omega (arith, window_cells v)) rooms above in
    (c.chain, c.lends)

-- "going on where the listing stopped" comes to an end: every chain has no more calls than hits, or one call if there is none.
pub chain_ends : (block : Run) (source : Source) (start : RunCell) (chain : Chain block source start) → calls_of chain ≤ max 1 (length (hits_from block source start.0))
chain_ends block source start chain = few_calls chain

-- So does every sequence of calls, also one that has not come to "done": one after the other, fewer calls say "more" than there
-- are hits, and none does where there is no hit.
pub mores_end : (block : Run) (source : Source) (start : RunCell) (calls : ℕ) → Mores block source start calls → calls < max 1 (length (hits_from block source start.0))
mores_end block source start calls mores = few_mores mores

-- No call of such a chain is refused, whichever outcome the promise admits: the first starts at a cell of the block, and where
-- a call says "more from", the next one does.
pub call_answered : (block : Run) (source : Source) → ValidRun block → ValidSource source → (start : RunCell) → start.0 < cells_of block → (room : List ℕ) → 1 ≤ length room → (r : Result Listing Refusal) (after : List ℕ) → ListingPromise block source start room r after → Answered block r
call_answered block source v w start inside room lent (Ok listing) after h = on listing.count listing.next h
  where
    on : (n : ℕ) (next : Option RunCell) → ListingPromise block source start room (Ok (record { count = n; next = next })) after → GoesOnIn block next
    on n None h = tt
    on n (Some next) h = goes_inside h
call_answered block source v w start inside room lent (Err refusal) after h = not_refused v w start inside room lent (Err refusal) after h (number refusal.reason) refusal.place refl

-- And so there are lists for every cut of a valid run, whatever rooms above nothing: to each block's calls its own supply is lent.
pub listings_exist : (run : Run) (source : Source) → ValidRun run → ValidSource source → (blocks : List Run) → Cut run blocks → (rooms : Run → ℕ → List ℕ) → ((block : Run) → Memᴰ block blocks → (k : ℕ) → 1 ≤ length (rooms block k)) → (lists : Listings source blocks) × LendsEach rooms source blocks lists
listings_exist run source v w blocks cut rooms above = each blocks (λ block m. m)
  where
    each : (some : List Run) → ((block : Run) → Memᴰ block some → Memᴰ block blocks) → (lists : Listings source some) × LendsEach rooms source some lists
    each [] f = (tt, tt)
    each (block ∷ rest) f =
        let m = f block (Memᴰ.head refl) in
        let here = chain_exists block source (cut_valid run v blocks cut block m).valid w (rooms block) (above block m) in
        let more = each rest (λ b n. f b (Memᴰ.tail n)) in
        ((here.0, more.0), (here.1, more.1))
