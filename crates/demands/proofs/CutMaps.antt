-- The maps of a cut's blocks: each block is a valid run and a block of the run (`ValidBlock`), each map as long as its block,
-- together they are as long as the run's, and sources added to each are added to the run's. Assumes nothing.
use Prim.Native.Nat.{ℕ, zero, suc, ◌+◌, ◌-◌, ◌*◌, ◌≤◌, ◌<◌}
use native.Mathlib.Nat.{zero-add}
use native.Mathlib.Omega.{arith}
use mathlib.Core.Path.{◌≡◌, refl, sym, ap, ap₂, ◌∙◌}
use mathlib.Core.List.{List, [], ◌∷◌, ◌++◌}
use lib.ListN.{length, get_or, length-append}
use Rattle.scope.specs.declared.Run.{Run}
use Rattle.scope.specs.Run.{ValidRun, lines_of, cells_of}
use Rattle.scope.proofs.Numbering.{valid_block}
use Rattle.sources.specs.declared.Entry.{Entry}
use Rattle.map.specs.Sum.{raised}
use Rattle.map.specs.Promise.{weight_at, added}
use Rattle.map.proofs.Raised.{raised_append, raised_move}
use Rattle.map.proofs.Entries.{weight_shift}
use Rattle.demands.specs.Cut.{CutFrom, Cut}
use Rattle.demands.specs.Adding.{together, Maps}
use Rattle.demands.proofs.Cuts.{piece_is, ValidBlock, before, before_first, before_piece, before_next}

module _ (run : Run) where
  block_at : ValidRun run → (line : ℕ) (blocks : List Run) → run.first ≤ line → CutFrom run line blocks → (k : ℕ) → k < length blocks → ValidBlock run (get_or blocks k run)
  block_at v line [] low c k h = absurd (omega arith)
  block_at v line (block ∷ blocks) low c zero h = let i = piece_is run blocks low c in record { valid = valid_block v i c.0.ordered; is = i }
  block_at v line (block ∷ blocks) low c (suc k) h = let p = c.0 in block_at v (suc block.last) blocks (omega arith) c.1 k (omega arith)

  -- each block, by its number, is a valid run and a block of the run
  pub valid_at : ValidRun run → (blocks : List Run) → Cut run blocks → (k : ℕ) → k < length blocks → ValidBlock run (get_or blocks k run)
  valid_at v blocks c = block_at v run.first blocks (omega arith) c

  -- the maps are as many as the blocks
  pub maps_length : (blocks : List Run) (maps : List (List ℕ)) → Maps blocks maps → length maps ≡ length blocks
  maps_length [] [] s = refl
  maps_length [] (map ∷ maps) s = absurd s
  maps_length (block ∷ blocks) [] s = absurd s
  maps_length (block ∷ blocks) (map ∷ maps) s = ap suc (maps_length blocks maps s.1)

  -- each is as long as its block
  pub map_at : (blocks : List Run) (maps : List (List ℕ)) → Maps blocks maps → (k : ℕ) → k < length blocks → length (get_or maps k []) ≡ cells_of (get_or blocks k run)
  map_at [] maps s k h = absurd (omega arith)
  map_at (block ∷ blocks) [] s k h = absurd s
  map_at (block ∷ blocks) (map ∷ maps) s zero h = s.0
  map_at (block ∷ blocks) (map ∷ maps) s (suc k) h = map_at blocks maps s.1 k (omega arith)

  -- the cells before a line and those of the block there are the cells before the next block
  before_on : (line : ℕ) (block : Run) (blocks : List Run) → run.first ≤ line → CutFrom run line (block ∷ blocks) → before run (suc block.last) ≡ before run line + cells_of block
  before_on line block blocks low c = before_next (piece_is run blocks low c) c.0.ordered ∙ ap (λ n. n + cells_of block) (sym (before_piece c.0))

  rest_cells : (line : ℕ) (blocks : List Run) (maps : List (List ℕ)) → run.first ≤ line → CutFrom run line blocks → Maps blocks maps → length (together maps) + before run line ≡ cells_of run
  unfolding before cells_of lines_of
  rest_cells line [] [] low c s = let end = ap (λ n. (n - run.first) * run.window) c in omega arith
  rest_cells line [] (map ∷ maps) low c s = absurd s
  rest_cells line (block ∷ blocks) [] low c s = absurd s
  rest_cells line (block ∷ blocks) (map ∷ maps) low c s =
      let p = c.0 in
      let more = rest_cells (suc block.last) blocks maps (omega arith) c.1 s.1 in
      omega (arith, more, before_on line block blocks low c, length-append map (together maps), s.0)

  -- the blocks' cells are the run's
  pub cut_cells : ValidRun run → (blocks : List Run) (maps : List (List ℕ)) → Cut run blocks → Maps blocks maps → length (together maps) ≡ cells_of run
  cut_cells v blocks maps c s = omega (arith, rest_cells run.first blocks maps (omega arith) c s, before_first run)

  joins : ValidRun run → (c : ℕ) (sources : List Entry) (first : ℕ) (blocks : List Run) (maps after : List (List ℕ)) → run.first ≤ first → CutFrom run first blocks → Maps blocks maps → length after ≡ length blocks → ((k : ℕ) → k < length blocks → get_or after k [] ≡ added c (get_or blocks k run) sources (get_or maps k [])) → together after ≡ raised c (weight_at run sources) (before run first) (together maps)
  unfolding raised added
  joins v c sources first [] [] [] low cut s l e = refl
  joins v c sources first [] [] (a ∷ after) low cut s l e = absurd (omega arith)
  joins v c sources first [] (map ∷ maps) after low cut s l e = absurd s
  joins v c sources first (block ∷ blocks) [] after low cut s l e = absurd s
  joins v c sources first (block ∷ blocks) (map ∷ maps) [] low cut s l e = absurd (omega arith)
  joins v c sources first (block ∷ blocks) (map ∷ maps) (a ∷ after) low cut s l e =
      let x = before run first in
      let gain = weight_at run sources in
      let one = piece_is run blocks low cut in
      let here : a ≡ raised c gain x map =
      e 0 (omega arith) ∙ raised_move c (weight_at block sources) gain 0 x map (λ i h. ap (weight_at block sources) (zero-add i) ∙ weight_shift v one sources i ∙ ap gain (omega (arith, before_piece cut.0))) in
      let p = cut.0 in
      let more = joins v c sources (suc block.last) blocks maps after (omega arith) cut.1 s.1 (omega arith) (λ k h. e (suc k) (omega arith)) in
      let next : before run (suc block.last) ≡ x + length map = before_on first block blocks low cut ∙ ap (λ n. x + n) (sym s.0) in
      ap₂ (λ (m n : List ℕ). m ++ n) here (rw next at more) ∙ sym (raised_append c gain x map (together maps))

  -- maps with the sources added block by block are the run's map with the sources added
  pub joined_added : ValidRun run → (c : ℕ) (sources : List Entry) (blocks : List Run) (maps after : List (List ℕ)) → Cut run blocks → Maps blocks maps → length after ≡ length blocks → ((k : ℕ) → k < length blocks → get_or after k [] ≡ added c (get_or blocks k run) sources (get_or maps k [])) → together after ≡ added c run sources (together maps)
  unfolding added
  joined_added v c sources blocks maps after cut s l e = rw (before_first run) at (joins v c sources run.first blocks maps after (omega arith) cut s l e)
