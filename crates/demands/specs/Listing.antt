-- Demand 3: the listing of a source in each block of a cut, call after call, and the lists joined.
use Rattle.std.specs.Prelude.{ℕ, zero, suc, ◌<◌, ◌≡◌, ◌↔◌, take, Option, Some, None, Result, Ok, Err}
use mathlib.Core.List.{List, [], ◌∷◌, ◌++◌, map, Memᴰ}
use Rattle.scope.specs.declared.Run.{Run}
use Rattle.scope.specs.declared.Source.{Source}
use Rattle.scope.specs.declared.RunCell.{RunCell}
use Rattle.scope.specs.declared.BlockCell.{BlockCell}
use Rattle.scope.specs.declared.Refusal.{Refusal}
use Rattle.scope.specs.Run.{cells_of, Before, to_run}
use Rattle.hits.specs.declared.Listing.{Listing}
use Rattle.hits.specs.Promise.{ListingPromise}
use Rattle.demands.specs.FirstHit.{HitsCell}

-- The reply "done", with so many hits written.
abbrev pub all_listed : ℕ → Result Listing Refusal
all_listed n = Ok (record { count = n; next = None })

-- The reply "more from x", x being the next hit.
abbrev pub more_from : ℕ → RunCell → Result Listing Refusal
more_from n next = Ok (record { count = n; next = Some next })

-- "list each source .. with any room above nothing, going on where the listing stopped": calls from a cell on, each with
-- whatever room and any outcome that the promise admits. The last says "done", each other "more from" the start of the next.
-- (A room of nothing is refused and stands in no chain.)
pub data Chain (block : Run) (source : Source) : RunCell → Type 0 where
  done : {start : RunCell} (room after : List ℕ) (n : ℕ) → ListingPromise block source start room (all_listed n) after → Chain block source start
  more : {start : RunCell} (room after : List ℕ) (n : ℕ) (next : RunCell) → ListingPromise block source start room (more_from n next) after → Chain block source next → Chain block source start

-- Where a cell is named to go on from, that is a cell of the block.
abbrev pub GoesOnIn : Run → Option RunCell → Type 0
GoesOnIn block None = Unit {0}
GoesOnIn block (Some next) = next.0 < cells_of block

-- A reply that is no refusal. Where it says "more from" a cell, that is a cell of the block.
abbrev pub Answered : Run → Result Listing Refusal → Type 0
Answered block (Ok listing) = GoesOnIn block listing.next
Answered block (Err refusal) = ⊥

-- Numbers as cells of a block.
abbrev pub block_cells : List ℕ → List BlockCell
block_cells numbers = map (λ x. record { 0 = x }) numbers

-- And as cells of the run.
abbrev pub run_cells : List ℕ → List RunCell
run_cells numbers = map (λ x. record { 0 = x }) numbers

-- The chain's list: what the calls on the block wrote, as many cells of it as each reply counts, joined.
abbrev pub list_of : {block : Run} {source : Source} {start : RunCell} → Chain block source start → List BlockCell
list_of (done room after n promise) = block_cells (take n after)
list_of (more room after n next promise rest) = block_cells (take n after) ++ list_of rest

-- How many calls there are.
abbrev pub calls_of : {block : Run} {source : Source} {start : RunCell} → Chain block source start → ℕ
calls_of (done room after n promise) = 1
calls_of (more room after n next promise rest) = suc (calls_of rest)

-- "going on where the listing stopped", wherever that ends: so many calls one after the other from a cell on, each with whatever
-- room, that all say "more". Whether a later one says "done" is left open.
pub data Mores (block : Run) (source : Source) : RunCell → ℕ → Type 0 where
  none_yet : {start : RunCell} → Mores block source start zero
  one_more : {start : RunCell} {calls : ℕ} (room after : List ℕ) (n : ℕ) (next : RunCell) → ListingPromise block source start room (more_from n next) after → Mores block source next calls → Mores block source start (suc calls)

-- The rooms are those of a supply, one after the other.
abbrev pub Lends : {block : Run} {source : Source} {start : RunCell} → (ℕ → List ℕ) → Chain block source start → Type 0
Lends rooms (done room after n promise) = room ≡ rooms 0
Lends rooms (more room after n next promise rest) = (room ≡ rooms 0) × Lends (λ k. rooms (suc k)) rest

-- "from the block's cell 0": a chain for each block.
abbrev pub Listings : Source → List Run → Type 0
Listings source [] = Unit {0}
Listings source (block ∷ blocks) = Chain block source (record { 0 = 0 }) × Listings source blocks

-- The rooms of each block's chain are those of the block's own supply.
abbrev pub LendsEach : (Run → ℕ → List ℕ) → (source : Source) (blocks : List Run) → Listings source blocks → Type 0
LendsEach rooms source [] lists = Unit {0}
LendsEach rooms source (block ∷ blocks) lists = Lends (rooms block) lists.0 × LendsEach rooms source blocks lists.1

-- "Joined in line order", each list turned from its block's cells into the run's.
abbrev pub joined : (run : Run) (source : Source) (blocks : List Run) → Listings source blocks → List RunCell
joined run source [] lists = []
joined run source (block ∷ blocks) lists = map (to_run run block) (list_of lists.0) ++ joined run source blocks lists.1

-- "by line and then by offset": each cell of the list comes before the next one.
abbrev pub InOrder : Run → List RunCell → Type 0
InOrder run [] = Unit {0}
InOrder run (x ∷ []) = Unit {0}
InOrder run (x ∷ y ∷ cells) = Before run x.0 y.0 × InOrder run (y ∷ cells)

-- "every hit of that source in the run once, none besides, by line and then by offset".
pub record EveryHitOnce (run : Run) (source : Source) (cells : List RunCell) : Type 0 where
  pub order : InOrder run cells
  pub exactly : (y : RunCell) → Memᴰ y cells ↔ (y.0 < cells_of run × HitsCell run source y.0)
