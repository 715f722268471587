-- Demand 3, the map: "Add the sources to the blocks in any order, each source once to each block, each call finding the map as
-- the one before left it: every cell then holds what it held before plus the weights of all its hits, or 255 if that is more."
-- Over the promise of the adding call alone, for every cut, every history of calls and every ceiling. Kept from call to call: the maps
-- are as long as their blocks, and what is still to be added is within the limits. Assumes nothing.
use Rattle.std.specs.Prelude.{Result, Ok}
use Rattle.scope.specs.declared.Refusal.{Refusal}
use Prim.Native.Nat.{ℕ, zero, suc, ◌+◌, ◌≤◌, ◌<◌}
use native.Mathlib.Nat.{zero-add}
use native.Mathlib.Decide.{ℕ_discrete}
use native.Mathlib.Omega.{arith}
use mathlib.Core.Path.{◌≡◌, refl, sym, ap, ◌∙◌}
use mathlib.Core.Bool.{Bool, true, false, cond}
use mathlib.Core.List.Permᴰ
use mathlib.Core.List.{List, [], ◌∷◌, ◌++◌, append-nil, Permᴰ}
use lib.ListN.{length, get_or, set, length-set}
use lib.Seq.{get_or-set_same, get_or-set_other}
use borrow.Author.Tests.{eq-eqb, ne_eqb}
use Rattle.scope.specs.declared.Run.{Run}
use Rattle.scope.specs.Run.{ValidRun, ceiling, UpTo, cells_of}
use Rattle.scope.specs.Hit.{is_hit}
use Rattle.sources.specs.declared.Entry.{Entry}
use Rattle.scope.proofs.Judged.{Passes}
use Rattle.scope.proofs.Hits.{hit_hits}
use Rattle.map.specs.Sum.{capped}
use Rattle.map.specs.Promise.{map_tests, weight_at, added, AddingPromiseAt}
use Rattle.sources.specs.Lists.{periods_of, weights_of, phases_of, ValidEntries}
use Rattle.sources.proofs.Entries.{valid_entries_pass, valid_lists, entries_of_lem, one_length}
use Rattle.map.proofs.Entries.{weight_shift, added_append, added_none, added_same, added_length, added_within, added_get_d}
use Rattle.map.proofs.Calls.{granted_call, stores_new, call_passes}
use Rattle.demands.specs.FirstHit.{HitsCell}
use Rattle.demands.specs.Cut.{Cut}
use Rattle.demands.specs.Adding.{together, Maps, Call, Keep, leave, added_to, NoneRefused, History, Adds}
use Rattle.demands.proofs.CutMaps.{valid_at, maps_length, map_at, cut_cells, joined_added}

-- ---- "the weights of all its hits"

-- Of a list's first source that is its weight where the source hits the cell, and nothing where it does not.
pub weight_hit : (run : Run) (entry : Entry) (entries : List Entry) (x : ℕ) → HitsCell run entry.source x → weight_at run (entry ∷ entries) x ≡ entry.weight + weight_at run entries x
unfolding weight_at
weight_hit run entry entries x h = rw ((hit_hits run entry.source x).1 h)

pub weight_missed : (run : Run) (entry : Entry) (entries : List Entry) (x : ℕ) → (HitsCell run entry.source x → ⊥) → weight_at run (entry ∷ entries) x ≡ weight_at run entries x
unfolding weight_at
weight_missed run entry entries x h = go (is_hit run entry.source x) refl
  where
    go : (b : Bool) → is_hit run entry.source x ≡ b → cond b entry.weight 0 + weight_at run entries x ≡ weight_at run entries x
    go true e = absurd (h ((hit_hits run entry.source x).0 e))
    go false e = zero-add (weight_at run entries x)

-- ---- reordered entries

-- the order of the sources changes no cell
weight_perm : (run : Run) {a b : List Entry} (x : ℕ) → Permᴰ a b → weight_at run a x ≡ weight_at run b x
unfolding weight_at
weight_perm run x Permᴰ.nil = refl
weight_perm run x (Permᴰ.cons e p) = rw (e, weight_perm run x p)
weight_perm run x (Permᴰ.swap e f) = rw (e, f) (omega arith)
weight_perm run x (Permᴰ.trans p q) = weight_perm run x p ∙ weight_perm run x q

-- ---- at any ceiling c; demand 3's is `ceiling`

module _ (c : ℕ) where
  valid_perm : {a b : List Entry} → Permᴰ a b → ValidEntries c b → ValidEntries c a
  valid_perm Permᴰ.nil v = v
  valid_perm (Permᴰ.cons e p) v = (rw e v.0, valid_perm p v.1)
  valid_perm (Permᴰ.swap e f) v = (rw e v.1.0, (rw f v.0, v.1.1))
  valid_perm (Permᴰ.trans p q) v = valid_perm p (valid_perm q v)

  valid_first : (a b : List Entry) → ValidEntries c (a ++ b) → ValidEntries c a
  valid_first [] b v = tt
  valid_first (e ∷ a) b v = (v.0, valid_first a b v.1)

  valid_second : (a b : List Entry) → ValidEntries c (a ++ b) → ValidEntries c b
  valid_second [] b v = v
  valid_second (e ∷ a) b v = valid_second a b v.1

  -- ---- a call's lists

  -- nothing is wrong with a call of entries within the limits on a map of the exact length
  entries_pass : {block : Run} (entries : List Entry) (map : List ℕ) → ValidRun block → ValidEntries c entries → length map ≡ cells_of block → Passes (map_tests c block (periods_of entries) (weights_of entries) (phases_of entries) map)
  entries_pass {block} entries map v w e =
      let lists = (valid_lists c (periods_of entries) (weights_of entries) (phases_of entries)).1 (one_length entries, rw (entries_of_lem entries) (valid_entries_pass c 1 entries w)) in
      call_passes c block (periods_of entries) (weights_of entries) (phases_of entries) map v lists e

  -- such a call, if it keeps its promise, is not refused and adds its entries
  call_adds : {block : Run} (entries : List Entry) {map : List ℕ} {answer : Result (Unit {0}) Refusal} {after : List ℕ} → ValidRun block → ValidEntries c entries → length map ≡ cells_of block → AddingPromiseAt c block (periods_of entries) (weights_of entries) (phases_of entries) map answer after → (answer ≡ Ok tt) × (after ≡ added c block entries map)
  call_adds {block} entries {map} {answer} {after} v w e m =
      let got = stores_new (entries_pass entries map v w e) m in
      (got.0, got.1 ∙ ap (λ (l : List Entry). added c block l map) (entries_of_lem entries))

  -- ---- a history, call after call

  to_this : (call : Call) (calls : List Call) (k : ℕ) → call.block ≡ k → added_to k (call ∷ calls) ≡ call.entries ++ added_to k calls
  unfolding added_to
  to_this call calls k e = rw (eq-eqb _ _ e)

  to_other : (call : Call) (calls : List Call) (k : ℕ) → (call.block ≡ k → ⊥) → added_to k (call ∷ calls) ≡ added_to k calls
  unfolding added_to
  to_other call calls k e = rw (ne_eqb _ _ e)

  module _ (run : Run) (blocks : List Run) (valid : (k : ℕ) → k < length blocks → ValidRun (get_or blocks k run)) where
    -- what holds of the blocks' maps between two calls
    record State (maps : List (List ℕ)) : Type 0 where
      as_many : length maps ≡ length blocks
      sized : (k : ℕ) → k < length blocks → length (get_or maps k []) ≡ cells_of (get_or blocks k run)
      small : (k : ℕ) → UpTo c (get_or maps k [])

    -- every entry still to be added is within the limits
    Left : List Call → Type 0
    Left calls = (k : ℕ) → k < length blocks → ValidEntries c (added_to k calls)

    module _ (call : Call) (calls : List Call) (inside : call.block < length blocks) (left : Left (call ∷ calls)) where
      own : ValidEntries c call.entries
      unfolding Left
      own = valid_first call.entries (added_to call.block calls) (rw (to_this call calls call.block refl) at (left call.block inside))

      next_left : Left calls
      unfolding Left
      next_left k h = go (ℕ_discrete call.block k)
        where
          go : Dec (call.block ≡ k) → ValidEntries c (added_to k calls)
          go (yes e) = valid_second call.entries (added_to k calls) (rw (to_this call calls k e) at (left k h))
          go (no e) = rw (to_other call calls k e) at (left k h)

    module _ (call : Call) (maps : List (List ℕ)) (state : State maps) (inside : call.block < length blocks) (adds : call.after ≡ added c (get_or blocks call.block run) call.entries (get_or maps call.block [])) where
      here : get_or (set maps call.block call.after) call.block [] ≡ call.after
      here = let l = state.as_many in get_or-set_same maps call.block call.after [] (omega arith)

      elsewhere : (k : ℕ) → (call.block ≡ k → ⊥) → get_or (set maps call.block call.after) k [] ≡ get_or maps k []
      elsewhere k e = get_or-set_other maps call.block k call.after [] (λ f. e (sym f))

      next_state : State (set maps call.block call.after)
      next_state =
          record {
            as_many = length-set maps call.block call.after ∙ state.as_many;
            sized = λ k h. size k h (ℕ_discrete call.block k);
            small = λ k. low k (ℕ_discrete call.block k);
          }
        where
          size : (k : ℕ) → k < length blocks → Dec (call.block ≡ k) → length (get_or (set maps call.block call.after) k []) ≡ cells_of (get_or blocks k run)
          size k h (yes e) = rw (← e, here, adds) (added_length c _ call.entries _ ∙ state.sized call.block inside)
          size k h (no e) = rw (elsewhere k e) (state.sized k h)

          low : (k : ℕ) → Dec (call.block ≡ k) → UpTo c (get_or (set maps call.block call.after) k [])
          low k (yes e) = rw (← e, here, adds) (added_within c _ call.entries _)
          low k (no e) = rw (elsewhere k e) (state.small k)

      -- what the later calls make of block k, the call before them counted in
      and_this : (calls : List Call) (k : ℕ) {end : List ℕ} → end ≡ added c (get_or blocks k run) (added_to k calls) (get_or (set maps call.block call.after) k []) → end ≡ added c (get_or blocks k run) (added_to k (call ∷ calls)) (get_or maps k [])
      and_this calls k {end} f = go (ℕ_discrete call.block k)
        where
          go : Dec (call.block ≡ k) → end ≡ added c (get_or blocks k run) (added_to k (call ∷ calls)) (get_or maps k [])
          go (yes e) =
              let there : get_or (set maps call.block call.after) k [] ≡ added c (get_or blocks k run) call.entries (get_or maps k []) = rw (← e) (here ∙ adds) in
              f
              ∙ ap (added c (get_or blocks k run) (added_to k calls)) there
              ∙ added_append c (get_or blocks k run) call.entries (added_to k calls) (get_or maps k [])
              ∙ ap (λ l. added c (get_or blocks k run) l (get_or maps k [])) (sym (to_this call calls k e))
          go (no e) =
              f
              ∙ ap (added c (get_or blocks k run) (added_to k calls)) (elsewhere k e)
              ∙ ap (λ l. added c (get_or blocks k run) l (get_or maps k [])) (sym (to_other call calls k e))

    -- no call is refused, and each block ends with all its entries added
    record Outcome (maps : List (List ℕ)) (calls : List Call) : Type 0 where
      done : NoneRefused calls
      as_many : length (leave maps calls) ≡ length maps
      ends : (k : ℕ) → k < length blocks → get_or (leave maps calls) k [] ≡ added c (get_or blocks k run) (added_to k calls) (get_or maps k [])

    outcome : (calls : List Call) (maps : List (List ℕ)) → State maps → Keep c run blocks maps calls → Left calls → Outcome maps calls
    unfolding added_to
    outcome [] maps state keep left = record { done = tt; as_many = refl; ends = λ k h. sym (added_none c (get_or blocks k run) (get_or maps k []) (state.small k)) }
    outcome (call ∷ calls) maps state keep left =
        let inside = keep.0 in
        let got = call_adds call.entries (valid call.block inside) (own call calls inside left) (state.sized call.block inside) keep.1 in
        let more = outcome calls (set maps call.block call.after) (next_state call maps state inside got.1) keep.2 (next_left call calls inside left) in
        record {
          done = (got.0, more.done);
          as_many = more.as_many ∙ length-set maps call.block call.after;
          ends = λ k h. and_this call maps state inside got.1 calls k (more.ends k h);
        }

  -- ---- the demand

  -- "Add the sources to the blocks in any order, each source once to each block": no call is refused, and "every cell then holds
  -- what it held before plus the weights of all its hits, or 255 if that is more".
  pub blocks_add_at : {run : Run} {blocks : List Run} {sources : List Entry} {maps : List (List ℕ)} {calls : List Call} → History c run blocks sources maps calls → Adds c run blocks sources maps calls
  unfolding Left added
  blocks_add_at {run} {blocks} {sources} {maps} {calls} h =
      let at = valid_at run h.valid blocks h.cut in
      let valid : (k : ℕ) → k < length blocks → ValidRun (get_or blocks k run) = λ k i. (at k i).valid in
      let state : State run blocks valid maps = record { as_many = maps_length run blocks maps h.sized; sized = map_at run blocks maps h.sized; small = h.small } in
      let out = outcome run blocks valid calls maps state h.keep (λ k i. valid_perm (h.once k i) h.within) in
      let each : (k : ℕ) → k < length blocks → get_or (leave maps calls) k [] ≡ added c (get_or blocks k run) sources (get_or maps k []) =
      λ k i. out.ends k i ∙ added_same c (get_or blocks k run) (added_to k calls) sources (get_or maps k []) (λ x j. weight_perm (get_or blocks k run) x (h.once k i)) in
      let whole = joined_added run h.valid c sources blocks maps (leave maps calls) h.cut h.sized (out.as_many ∙ state.as_many) each in
      let cells = cut_cells run h.valid blocks maps h.cut h.sized in
      record {
        none_refused = out.done;
        cells = cells;
        whole = whole;
        every_cell = λ y i. ap (λ (l : List ℕ). get_or l y.0 0) whole ∙ added_get_d c run sources (together maps) y.0 (omega arith);
        every_block = λ k i x j.
            ap (λ (l : List ℕ). get_or l x.0 0) (each k i)
            ∙ added_get_d c (get_or blocks k run) sources (get_or maps k []) x.0 (omega (arith, state.sized k i))
            ∙ ap (λ n. capped c (get_or (get_or maps k []) x.0 0 + n)) (weight_shift h.valid (at k i).is sources x.0);
      }

  -- "The certificate then compares readings that don't belong together": not so. Two cuts and two histories of the same sources,
  -- from equal cells of the run, end in equal cells of the run.
  pub same_cells_at : {run : Run} {sources : List Entry} {blocks other : List Run} {maps maps' : List (List ℕ)} {calls calls' : List Call} → History c run blocks sources maps calls → History c run other sources maps' calls' → together maps ≡ together maps' → together (leave maps calls) ≡ together (leave maps' calls')
  same_cells_at {run} {sources} h h' e = (blocks_add_at h).whole ∙ ap (added c run sources) e ∙ sym (blocks_add_at h').whole

  -- ---- there is such a history: block after block, from the last one down, each with all sources in one call

  -- A call on the maps as they are, with the outcome that its promise admits.
  abbrev call_on : Run → List Run → List Entry → List (List ℕ) → ℕ → Call
  call_on run blocks sources maps k = record { block = k; entries = sources; answer = Ok tt; after = added c (get_or blocks k run) sources (get_or maps k []) }

  -- The calls on the first n blocks, from the last of them down.
  abbrev calls_on : Run → List Run → List Entry → List (List ℕ) → ℕ → List Call
  calls_on run blocks sources maps zero = []
  calls_on run blocks sources maps (suc n) =
      let call = call_on run blocks sources maps n in
      call ∷ calls_on run blocks sources (set maps n call.after) n

  to_later : (run : Run) (blocks : List Run) (sources : List Entry) (n : ℕ) (maps : List (List ℕ)) (k : ℕ) → n ≤ k → added_to k (calls_on run blocks sources maps n) ≡ []
  unfolding added_to
  to_later run blocks sources zero maps k h = refl
  to_later run blocks sources (suc n) maps k h =
      let call = call_on run blocks sources maps n in
      to_other call (calls_on run blocks sources (set maps n call.after) n) k (λ e. omega arith) ∙ to_later run blocks sources n (set maps n call.after) k (omega arith)

  to_each : (run : Run) (blocks : List Run) (sources : List Entry) (n : ℕ) (maps : List (List ℕ)) (k : ℕ) → k < n → added_to k (calls_on run blocks sources maps n) ≡ sources
  to_each run blocks sources zero maps k h = absurd (omega arith)
  to_each run blocks sources (suc n) maps k h = go (ℕ_discrete n k) (λ i. to_each run blocks sources n maps' k i)
    where
      maps' : List (List ℕ)
      maps' = set maps n (added c (get_or blocks n run) sources (get_or maps n []))

      go : Dec (n ≡ k) → (k < n → added_to k (calls_on run blocks sources maps' n) ≡ sources) → added_to k (calls_on run blocks sources maps (suc n)) ≡ sources
      go (yes e) more = to_this (call_on run blocks sources maps n) (calls_on run blocks sources maps' n) k e ∙ ap (λ l. sources ++ l) (to_later run blocks sources n maps' k (omega arith)) ∙ append-nil sources
      go (no e) more = to_other (call_on run blocks sources maps n) (calls_on run blocks sources maps' n) k e ∙ more (omega arith)

  keep_each : (run : Run) (blocks : List Run) (valid : (k : ℕ) → k < length blocks → ValidRun (get_or blocks k run)) (sources : List Entry) → ValidEntries c sources → (n : ℕ) (maps : List (List ℕ)) → n ≤ length blocks → State run blocks valid maps → Keep c run blocks maps (calls_on run blocks sources maps n)
  keep_each run blocks valid sources w zero maps h state = tt
  keep_each run blocks valid sources w (suc n) maps h state =
      let call = call_on run blocks sources maps n in
      let block = get_or blocks n run in
      let map = get_or maps n [] in (
        omega arith,
        granted_call (entries_pass sources map (valid n (omega arith)) w (state.sized n (omega arith))) (ap (λ (l : List Entry). added c block l map) (sym (entries_of_lem sources))),
        keep_each run blocks valid sources w n (set maps n call.after) (omega arith) (next_state run blocks valid call maps state (omega arith) refl),
      )

  -- For every valid run, every cut of it, all sources within the limits and all maps of bytes of the exact length there is one
  -- history at least, the one above: it shows that the theorems over histories are not empty, and no more. That other orders, with
  -- the sources spread over more calls, add up too is what `blocks_add_at` says of every history.
  pub history_exists_at : {run : Run} {blocks : List Run} {sources : List Entry} {maps : List (List ℕ)} → ValidRun run → Cut run blocks → ValidEntries c sources → Maps blocks maps → ((k : ℕ) → UpTo c (get_or maps k [])) → (calls : List Call) × History c run blocks sources maps calls
  history_exists_at {run} {blocks} {sources} {maps} v cut w sized small =
      let valid : (k : ℕ) → k < length blocks → ValidRun (get_or blocks k run) = λ k i. (valid_at run v blocks cut k i).valid in (
        calls_on run blocks sources maps (length blocks),
        record {
          valid = v;
          cut = cut;
          within = w;
          sized = sized;
          small = small;
          keep = keep_each run blocks valid sources w (length blocks) maps (omega arith) (record { as_many = maps_length run blocks maps sized; sized = map_at run blocks maps sized; small = small });
          once = λ k h. rw (to_each run blocks sources (length blocks) maps k h) (Permᴰ.refl sources);
        },
      )

-- ---- demand 3, at 01's ceiling

-- "Add the sources to the blocks in any order, each source once to each block": no call is refused, and "every cell then holds
-- what it held before plus the weights of all its hits, or 255 if that is more".
pub blocks_add : {run : Run} {blocks : List Run} {sources : List Entry} {maps : List (List ℕ)} {calls : List Call} → History ceiling run blocks sources maps calls → Adds ceiling run blocks sources maps calls
blocks_add h = blocks_add_at ceiling h

-- Two cuts and two histories that begin with the same cells leave the same cells.
pub same_cells : {run : Run} {sources : List Entry} {blocks other : List Run} {maps maps' : List (List ℕ)} {calls calls' : List Call} → History ceiling run blocks sources maps calls → History ceiling run other sources maps' calls' → together maps ≡ together maps' → together (leave maps calls) ≡ together (leave maps' calls')
same_cells h h' e = same_cells_at ceiling h h' e

-- Such a history exists for every cut and every map of bytes.
pub history_exists : {run : Run} {blocks : List Run} {sources : List Entry} {maps : List (List ℕ)} → ValidRun run → Cut run blocks → ValidEntries ceiling sources → Maps blocks maps → ((k : ℕ) → UpTo ceiling (get_or maps k [])) → (calls : List Call) × History ceiling run blocks sources maps calls
history_exists v cut w sized small = history_exists_at ceiling v cut w sized small
