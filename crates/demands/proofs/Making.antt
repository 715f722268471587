-- Request E6, "a map starts clean": the plain map call and the adding one, over their promises alone, for any ceiling. Assumes nothing.
use Rattle.std.specs.Prelude.{Result, Ok, Err}
use Prim.Native.Nat.{ℕ, zero, suc, ◌+◌, ◌≤◌, ◌<◌}
use native.Mathlib.Nat.{zero-add}
use native.Mathlib.Omega.{arith}
use mathlib.Core.Path.{◌≡◌, refl, sym, ap, ap₂, ◌∙◌}
use mathlib.Core.Logic.{◌⊎◌, inl, inr}
use mathlib.Core.List.{List, [], ◌∷◌, ◌++◌}
use mathlib.Core.Option.{none}
use lib.ListN.{length, get_or, length-append, replicate-append-replicate}
use Rattle.rooms.specs.Lists.{UpTo, zeros}
use Rattle.rooms.proofs.Lists.{length_zeros, zero_at}
use Rattle.scope.specs.declared.Run.{Run}
use Rattle.scope.specs.declared.RunCell.{RunCell}
use Rattle.scope.specs.Run.{ValidRun, cells_of}
use Rattle.scope.specs.declared.Refusal.{Refusal}
use Rattle.scope.specs.Refusal.{complaint}
use Rattle.scope.specs.Reply.{reply}
use Rattle.scope.proofs.Judged.{Passes, Fails, first, then}
use Rattle.scope.proofs.Rendered.{judged}
use Rattle.scope.proofs.Limits.{valid_run_passes}
use Rattle.scope.proofs.Numbering.{valid_block}
use Rattle.sources.specs.Entry.{entries_of, length_tests, list_tests, source_lists_tests}
use Rattle.map.specs.Sum.{capped}
use Rattle.map.specs.Promise.{map_tests, weight_at, added, made, says_map, MakingPromiseAt, AddingPromiseAt}
use Rattle.map.proofs.Entries.{added_none, added_get_d}
use Rattle.map.proofs.Made.{made_added, made_length}
use Rattle.map.proofs.Calls.{says_map_injective, stores_new, done_passes, done_leaves, refused_leaves, call_passes, passes_whole, answers_alike, whatever_held}
use Rattle.map.proofs.Unique.{call_unique, call_exists}
use Rattle.demands.specs.Cut.{CutFrom, Cut}
use Rattle.demands.specs.Adding.{together, Maps}
use Rattle.demands.specs.Making.{BlockMap, BlockMaps, lents_of, afters_of, EachAnswers}
use Rattle.demands.proofs.Cuts.{piece_is}
use Rattle.demands.proofs.CutMaps.{cut_cells, joined_added}

module _ {c : ℕ} {run : Run} {periods weights phases : List ℕ} where
  -- "the plain call equals it on a map of zeros": on every input the same reply; not refused, the same cells; refused, each leaves
  -- what it was lent.
  pub plain_is_adding : {map : List ℕ} {a b : Result (Unit {0}) Refusal} {after other : List ℕ} → MakingPromiseAt c run periods weights phases map a after → AddingPromiseAt c run periods weights phases (zeros (length map)) b other
      → (a ≡ b) × (a ≡ Ok tt → after ≡ other) × ((refusal : Refusal) → a ≡ Err refusal → (after ≡ map) × (other ≡ zeros (length map)))
  plain_is_adding {map} {a} {b} {after} {other} m n = (same, done, λ refusal e. (refused_leaves (rw e at m), refused_leaves (rw (sym same ∙ e) at n)))
    where
      same : a ≡ b
      same = answers_alike c run periods weights phases (sym (length_zeros (length map))) m n

      done : a ≡ Ok tt → after ≡ other
      done e =
          let entries = entries_of periods weights phases in
          let whole = passes_whole c run periods weights phases map (done_passes (rw e at m)) in
          let cells : made c run entries ≡ added c run entries (zeros (length map)) = made_added c run entries ∙ ap (λ k. added c run entries (zeros k)) (sym whole) in
          done_leaves (rw e at m) ∙ cells ∙ sym (done_leaves (rw (sym same ∙ e) at n))

  -- A map that was made has the run's cells, and each holds the weights of all its hits, or the ceiling if that is more.
  pub made_every_cell : {map after : List ℕ} → MakingPromiseAt c run periods weights phases map (Ok tt) after → (length after ≡ cells_of run) × ((y : RunCell) → y.0 < cells_of run → get_or after y.0 0 ≡ capped c (weight_at run (entries_of periods weights phases) y.0))
  made_every_cell m =
      let entries = entries_of periods weights phases in
      let start = zeros (cells_of run) in (
        ap length (done_leaves m) ∙ made_length c run entries,
        λ y inside.
            ap (λ cells. get_or cells y.0 0) (done_leaves m ∙ made_added c run entries)
            ∙ added_get_d c run entries start y.0 (omega (arith, length_zeros (cells_of run)))
            ∙ ap (λ old. capped c (old + weight_at run entries y.0)) (zero_at (cells_of run) y.0)
            ∙ ap (capped c) (zero-add _),
      )

  -- "shall clear first": two maps as long, made with the same run and sources, get the same reply, whatever each held, and not refused they
  -- are then the same map.
  pub made_alike : {map other : List ℕ} {a b : Result (Unit {0}) Refusal} {after after' : List ℕ} → length map ≡ length other → MakingPromiseAt c run periods weights phases map a after → MakingPromiseAt c run periods weights phases other b after' → (a ≡ b) × (a ≡ Ok tt → after ≡ after')
  made_alike {a = a} {b} e m n =
      let same : a ≡ b = answers_alike c run periods weights phases e m n in
      (same, λ d. done_leaves (rw d at m) ∙ sym (done_leaves (rw (sym same ∙ d) at n)))

  -- Made twice is made once: of the map that a call left, another makes the same, with the same reply.
  pub made_twice : {map : List ℕ} {a b : Result (Unit {0}) Refusal} {after again : List ℕ} → MakingPromiseAt c run periods weights phases map a after → MakingPromiseAt c run periods weights phases after b again → (a ≡ b) × (again ≡ after)
  made_twice {map} {a} {b} {after} {again} m n = go a refl
    where
      go : (r : Result (Unit {0}) Refusal) → a ≡ r → (a ≡ b) × (again ≡ after)
      go (Ok done) e =
          let made_once = rw e at m in
          let long : length map ≡ length after = passes_whole c run periods weights phases map (done_passes made_once) ∙ sym (made_length c run (entries_of periods weights phases)) ∙ ap length (sym (done_leaves made_once)) in
          let u = call_unique (whatever_held c run periods weights phases made_once long) n in
          (e ∙ u.0, sym u.1)
      go (Err refusal) e =
          let u = call_unique m (rw (refused_leaves (rw e at m)) at n) in
          (u.0, sym u.1)

-- of a valid run and a map of its length the tests look at the lists alone
only_lists : (c : ℕ) {run : Run} (periods weights phases map : List ℕ) → ValidRun run → length map ≡ cells_of run → complaint (map_tests c run periods weights phases map) ≡ complaint (source_lists_tests c periods weights phases)
unfolding map_tests
only_lists c {run} periods weights phases map v whole = go (judged (source_lists_tests c periods weights phases))
  where
    go : Passes (source_lists_tests c periods weights phases) ⊎ ((b : Refusal) × Fails (source_lists_tests c periods weights phases) b.reason b.place) → complaint (map_tests c run periods weights phases map) ≡ complaint (source_lists_tests c periods weights phases)
    go (inl p) = (call_passes c run periods weights phases map v p whole).is ∙ sym p.is
    go (inr f) = (first (then (valid_run_passes v) f.1)).is ∙ sym f.1.is

no_lists : (c : ℕ) → complaint (source_lists_tests c [] [] []) ≡ none
unfolding source_lists_tests length_tests list_tests entries_of complaint
no_lists c = refl

-- "so an empty list now clears the map there": of a run within the limits and a map of its length, with no sources, the call is done and
-- the map is then all zeros.
pub empty_clears : {c : ℕ} {run : Run} {map after : List ℕ} {answer : Result (Unit {0}) Refusal} → ValidRun run → length map ≡ cells_of run → MakingPromiseAt c run [] [] [] map answer after → (answer ≡ Ok tt) × (after ≡ zeros (cells_of run))
unfolding entries_of
empty_clears {c} {run} {map} v whole m =
    let left = stores_new (record { is = only_lists c [] [] [] map v whole ∙ no_lists c }) m in
    (left.0, left.1 ∙ made_added c run [] ∙ added_none c run (zeros (cells_of run)) (λ i. omega (arith, zero_at (cells_of run) i)))

-- "An empty list changes nothing", in the adding call: a map with no cell above the ceiling stays as it is.
pub empty_keeps : {c : ℕ} {run : Run} {map after : List ℕ} (answer : Result (Unit {0}) Refusal) → UpTo c map → AddingPromiseAt c run [] [] [] map answer after → after ≡ map
unfolding entries_of
empty_keeps {c} {run} {map} (Ok done) small m = done_leaves m ∙ added_none c run map small
empty_keeps (Err refusal) small m = refused_leaves m

-- ---- blocks

-- clean maps of the blocks
abbrev clean : List Run → List (List ℕ)
clean [] = []
clean (block ∷ blocks) = zeros (cells_of block) ∷ clean blocks

clean_sized : (blocks : List Run) → Maps blocks (clean blocks)
clean_sized [] = tt
clean_sized (block ∷ blocks) = (length_zeros (cells_of block), clean_sized blocks)

clean_together : (blocks : List Run) → together (clean blocks) ≡ zeros (length (together (clean blocks)))
unfolding zeros
clean_together [] = refl
clean_together (block ∷ blocks) =
    let n = cells_of block in
    let rest = together (clean blocks) in
    ap (λ l. zeros n ++ l) (clean_together blocks) ∙ replicate-append-replicate {A = ℕ} n (length rest) 0 ∙ ap zeros (sym (length-append (zeros n) rest ∙ ap (λ k. k + length rest) (length_zeros n)))

module _ (c : ℕ) (run : Run) (valid : ValidRun run) (periods weights phases : List ℕ) where
  module _ {line : ℕ} {block : Run} (blocks : List Run) (low : run.first ≤ line) (cut : CutFrom run line (block ∷ blocks)) (map : BlockMap) (whole : length map.lent ≡ cells_of block) where
    -- a block's call is judged by the lists
    judged_so : complaint (map_tests c block periods weights phases map.lent) ≡ complaint (source_lists_tests c periods weights phases)
    judged_so = only_lists c periods weights phases map.lent (valid_block valid (piece_is run blocks low cut) cut.0.ordered) whole

    block_made : Passes (source_lists_tests c periods weights phases) → MakingPromiseAt c block periods weights phases map.lent map.answer map.after → map.after ≡ added c block (entries_of periods weights phases) (zeros (cells_of block))
    block_made fine m = (stores_new (record { is = judged_so ∙ fine.is }) m).1 ∙ made_added c block (entries_of periods weights phases)

  answers : (answer : Result (Unit {0}) Refusal) → says_map answer ≡ reply (complaint (source_lists_tests c periods weights phases)) tt → (line : ℕ) (blocks : List Run) (maps : List BlockMap) → run.first ≤ line → CutFrom run line blocks → BlockMaps c periods weights phases blocks maps → EachAnswers answer maps
  answers answer is line [] [] low cut s = tt
  answers answer is line [] (map ∷ maps) low cut s = absurd s
  answers answer is line (block ∷ blocks) [] low cut s = absurd s
  answers answer is line (block ∷ blocks) (map ∷ maps) low cut s =
      let p = cut.0 in (
        says_map_injective map.answer answer (s.1.says ∙ ap (λ o. reply o tt) (judged_so blocks low cut map s.0) ∙ sym is),
        answers answer is (suc block.last) blocks maps (omega arith) cut.1 s.2,
      )

  as_many : (blocks : List Run) (maps : List BlockMap) → BlockMaps c periods weights phases blocks maps → length (afters_of maps) ≡ length blocks
  as_many [] [] s = refl
  as_many [] (map ∷ maps) s = absurd s
  as_many (block ∷ blocks) [] s = absurd s
  as_many (block ∷ blocks) (map ∷ maps) s = ap suc (as_many blocks maps s.2)

  made_at : Passes (source_lists_tests c periods weights phases) → (line : ℕ) (blocks : List Run) (maps : List BlockMap) → run.first ≤ line → CutFrom run line blocks → BlockMaps c periods weights phases blocks maps → (k : ℕ) → k < length blocks → get_or (afters_of maps) k [] ≡ added c (get_or blocks k run) (entries_of periods weights phases) (get_or (clean blocks) k [])
  made_at fine line [] maps low cut s k h = absurd (omega arith)
  made_at fine line (block ∷ blocks) [] low cut s k h = absurd s
  made_at fine line (block ∷ blocks) (map ∷ maps) low cut s zero h = block_made blocks low cut map s.0 fine s.1
  made_at fine line (block ∷ blocks) (map ∷ maps) low cut s (suc k) h = let p = cut.0 in made_at fine (suc block.last) blocks maps (omega arith) cut.1 s.2 k (omega arith)

  left_as_lent : (refusal : Refusal) (blocks : List Run) (maps : List BlockMap) → BlockMaps c periods weights phases blocks maps → EachAnswers (Err refusal) maps → afters_of maps ≡ lents_of maps
  left_as_lent refusal [] [] s a = refl
  left_as_lent refusal [] (map ∷ maps) s a = absurd s
  left_as_lent refusal (block ∷ blocks) [] s a = absurd s
  left_as_lent refusal (block ∷ blocks) (map ∷ maps) s a = ap₂ ◌∷◌ (refused_leaves (rw a.0 at s.1)) (left_as_lent refusal blocks maps s.2 a.1)

  -- A map made in blocks by the plain call on each block, all sources in one call, is the run's map made by it: every block's call
  -- answers what the run's does; where that is done the blocks' maps, joined in line order, are the run's, and where it is a refusal
  -- each is as it was lent.
  pub blocks_made : (blocks : List Run) → Cut run blocks → (maps : List BlockMap) → BlockMaps c periods weights phases blocks maps → {lent : List ℕ} {answer : Result (Unit {0}) Refusal} {after : List ℕ} → length lent ≡ cells_of run → MakingPromiseAt c run periods weights phases lent answer after
      → EachAnswers answer maps × (answer ≡ Ok tt → together (afters_of maps) ≡ after) × ((refusal : Refusal) → answer ≡ Err refusal → afters_of maps ≡ lents_of maps)
  blocks_made blocks cut maps s {lent} {answer} {after} whole m =
      let each = answers answer (m.says ∙ ap (λ o. reply o tt) (only_lists c periods weights phases lent valid whole)) run.first blocks maps (omega arith) cut s in (
        each,
        λ e.
            let entries = entries_of periods weights phases in
            let fine : Passes (source_lists_tests c periods weights phases) = record { is = sym (only_lists c periods weights phases lent valid whole) ∙ (done_passes (rw e at m)).is } in
            let zeroed : together (clean blocks) ≡ zeros (cells_of run) = clean_together blocks ∙ ap zeros (cut_cells run valid blocks (clean blocks) cut (clean_sized blocks)) in
            joined_added run valid c entries blocks (clean blocks) (afters_of maps) cut (clean_sized blocks) (as_many blocks maps s) (made_at fine run.first blocks maps (omega arith) cut s)
            ∙ ap (added c run entries) zeroed
            ∙ sym (made_added c run entries)
            ∙ sym (done_leaves (rw e at m)),
        λ refusal e. left_as_lent refusal blocks maps s (rw e at each),
      )

-- Such calls exist, on whatever maps of the exact lengths.
pub block_maps_exist : (c : ℕ) (periods weights phases : List ℕ) (blocks : List Run) (lents : List (List ℕ)) → Maps blocks lents → (maps : List BlockMap) × (lents_of maps ≡ lents) × BlockMaps c periods weights phases blocks maps
block_maps_exist c periods weights phases [] [] s = ([], refl, tt)
block_maps_exist c periods weights phases [] (lent ∷ lents) s = absurd s
block_maps_exist c periods weights phases (block ∷ blocks) [] s = absurd s
block_maps_exist c periods weights phases (block ∷ blocks) (lent ∷ lents) s =
    let call = call_exists c block periods weights phases lent (made c block (entries_of periods weights phases)) in
    let rest = block_maps_exist c periods weights phases blocks lents s.1 in
    (record { lent = lent; answer = call.0; after = call.1 } ∷ rest.0, ap (lent ∷◌) rest.1, (s.0, call.2, rest.2))
