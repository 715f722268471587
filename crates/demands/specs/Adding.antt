-- Demand 3: "Add the sources to the blocks in any order, each source once to each block, each call finding the map as the one
-- before left it": the blocks' maps, and a history of calls. At any ceiling c: demand 3 is at `ceiling`,
-- where the promise that each call keeps is `AddingPromise`.
use Rattle.scope.specs.declared.Refusal.{Refusal}
use Rattle.std.specs.Prelude.{ℕ, ◌+◌, ◌<◌, ◌≡◌, cond, eqb, length, get_or, set, Result, Ok}
use mathlib.Core.List.{List, [], ◌∷◌, ◌++◌, Permᴰ}
use Rattle.scope.specs.declared.Run.{Run}
use Rattle.scope.specs.declared.RunCell.{RunCell}
use Rattle.scope.specs.declared.BlockCell.{BlockCell}
use Rattle.scope.specs.Run.{ValidRun, UpTo, cells_of, to_run}
use Rattle.sources.specs.declared.Entry.{Entry}
use Rattle.map.specs.Sum.{capped}
use Rattle.map.specs.Promise.{weight_at, added, AddingPromiseAt}
use Rattle.sources.specs.Lists.{periods_of, weights_of, phases_of, ValidEntries}
use Rattle.demands.specs.Cut.{Cut}

-- What the blocks' maps hold, joined in line order.
abbrev pub together : List (List ℕ) → List ℕ
together [] = []
together (map ∷ maps) = map ++ together maps

-- The blocks' maps, each "of the exact length".
abbrev pub Maps : List Run → List (List ℕ) → Type 0
Maps [] [] = Unit {0}
Maps [] (map ∷ maps) = ⊥
Maps (block ∷ blocks) [] = ⊥
Maps (block ∷ blocks) (map ∷ maps) = (length map ≡ cells_of block) × Maps blocks maps

-- A call and its outcome: to which block, counted from 0, which entries are added; the answer; the block's map afterwards.
pub record Call : Type 0 where
  pub block : ℕ
  pub entries : List Entry
  pub answer : Result (Unit {0}) Refusal
  pub after : List ℕ

-- Every call keeps its promise, "each call finding the map as the one before left it".
abbrev pub Keep : ℕ → Run → List Run → List (List ℕ) → List Call → Type 0
Keep c run blocks maps [] = Unit {0}
Keep c run blocks maps (call ∷ calls) =
    (call.block < length blocks) ×
    AddingPromiseAt c (get_or blocks call.block run) (periods_of call.entries) (weights_of call.entries) (phases_of call.entries) (get_or maps call.block []) call.answer call.after ×
    Keep c run blocks (set maps call.block call.after) calls

-- What the calls leave in the blocks' maps.
abbrev pub leave : List (List ℕ) → List Call → List (List ℕ)
leave maps [] = maps
leave maps (call ∷ calls) = leave (set maps call.block call.after) calls

-- The entries that the calls add to block k, joined.
unfoldable pub added_to : ℕ → List Call → List Entry
added_to k [] = []
added_to k (call ∷ calls) = cond (eqb call.block k) (call.entries ++ added_to k calls) (added_to k calls)

-- No call is refused.
abbrev pub NoneRefused : List Call → Type 0
NoneRefused [] = Unit {0}
NoneRefused (call ∷ calls) = (call.answer ≡ Ok tt) × NoneRefused calls

-- A cut of a run, sources within the limits, for each block a map with no cell above the ceiling, and calls that add each source
-- once to each block.
pub record History (c : ℕ) (run : Run) (blocks : List Run) (sources : List Entry) (maps : List (List ℕ)) (calls : List Call) : Type 0 where
  pub valid : ValidRun run
  pub cut : Cut run blocks
  pub within : ValidEntries c sources
  pub sized : Maps blocks maps
  pub small : (k : ℕ) → UpTo c (get_or maps k [])
  pub keep : Keep c run blocks maps calls
  pub once : (k : ℕ) → k < length blocks → Permᴰ (added_to k calls) sources

-- "every cell then holds what it held before plus the weights of all its hits, or 255 if that is more", the ceiling; and no call
-- is refused.
-- Told of all maps joined, of each cell of the run, and block by block: cell x of block k has the hits of the run's cell that it is.
pub record Adds (c : ℕ) (run : Run) (blocks : List Run) (sources : List Entry) (maps : List (List ℕ)) (calls : List Call) : Type 0 where
  pub none_refused : NoneRefused calls
  pub cells : length (together maps) ≡ cells_of run
  pub whole : together (leave maps calls) ≡ added c run sources (together maps)
  pub every_cell : (y : RunCell) → y.0 < cells_of run → get_or (together (leave maps calls)) y.0 0 ≡ capped c (get_or (together maps) y.0 0 + weight_at run sources y.0)
  pub every_block : (k : ℕ) → k < length blocks → (x : BlockCell) → x.0 < cells_of (get_or blocks k run) → get_or (get_or (leave maps calls) k []) x.0 0 ≡ capped c (get_or (get_or maps k []) x.0 0 + weight_at run sources (to_run run (get_or blocks k run) x).0)
