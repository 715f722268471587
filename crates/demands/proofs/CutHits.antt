-- The hits of a cut's blocks, moved into the run's cells and joined in line order, are the run's hits: block after block, by
-- the cells that stand before each. Assumes nothing.
use Prim.Native.Nat.{ℕ, suc, ◌+◌, ◌-◌, ◌≤◌}
use native.Mathlib.Nat.{zero-add, sub-zero}
use native.Mathlib.Omega.{arith}
use mathlib.Core.Path.{◌≡◌, sym, ◌∙◌}
use mathlib.Core.List.{List, [], ◌∷◌, ◌++◌, map}
use Rattle.scope.specs.declared.Run.{Run}
use Rattle.scope.specs.declared.Source.{Source}
use Rattle.scope.specs.Run.{ValidRun, cells_of, shift_of}
use Rattle.scope.specs.Inner.{IsBlock}
use Rattle.scope.specs.Hit.{hits_among, hits_from}
use Rattle.scope.proofs.Hits.{hits_end, hits_split, hits_block}
use Rattle.demands.specs.Cut.{CutFrom, Cut}
use Rattle.demands.proofs.Cuts.{cut_within, piece_is, before, before_within, before_first, before_end, before_piece, before_next}

-- numbers of a block, moved into the run's
abbrev pub moved : Run → Run → List ℕ → List ℕ
moved run block numbers = map (λ x. x + shift_of run block) numbers

-- the hits of the blocks, moved and joined
abbrev pub block_hits : Run → Source → List Run → List ℕ
block_hits run source [] = []
block_hits run source (block ∷ blocks) = moved run block (hits_from block source 0) ++ block_hits run source blocks

-- the hits among m cells, and those after them
hits_join : (run : Run) (source : Source) (x m : ℕ) → x + m ≤ cells_of run → hits_among run source x m ++ hits_from run source (x + m) ≡ hits_from run source x
unfolding hits_from
hits_join run source x m h =
    let n = cells_of run - (x + m) in
    let all : cells_of run - x ≡ m + n = omega arith in
    rw all (sym (hits_split run source x m n))

-- a block's hits are those of its lines
block_hits_lem : {run block : Run} → ValidRun run → IsBlock run block → (source : Source) → moved run block (hits_from block source 0) ≡ hits_among run source (shift_of run block) (cells_of block)
block_hits_lem {run} {block} v i source = rw (zero-add (shift_of run block), sub-zero (cells_of block)) at (hits_block v i source 0)

-- the blocks from a line on have the run's hits from that line on
hits_from_lem : {run : Run} → ValidRun run → (source : Source) (line : ℕ) (blocks : List Run) → run.first ≤ line → CutFrom run line blocks → block_hits run source blocks ≡ hits_from run source (before run line)
hits_from_lem {run} v source line [] from c = sym (hits_end run source (before run line) (before_end run c))
hits_from_lem {run} v source line (block ∷ blocks) from c =
    let i = piece_is run blocks from c in
    let p = c.0 in
    let next = before_next i p.ordered in
    let within = before_within run (suc block.last) (cut_within run (suc block.last) blocks c.1) in
    let ih = hits_from_lem v source (suc block.last) blocks (omega arith) c.1 in
    rw (block_hits_lem v i source, ih, next, before_piece p) (hits_join run source (shift_of run block) (cells_of block) (omega arith))

-- The hits of a cut's blocks are the run's hits, in order.
pub cut_hits : {run : Run} → ValidRun run → (source : Source) (blocks : List Run) → Cut run blocks → block_hits run source blocks ≡ hits_from run source 0
cut_hits {run} v source blocks c = hits_from_lem v source run.first blocks (omega arith) c ∙ rw (before_first run)
