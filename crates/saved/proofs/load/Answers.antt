-- `saved::load` meets its contract: each turn copies the cells of one block. Assumes nothing.
use Prim.Native.Nat.{◌+◌, ◌-◌, ◌*◌}
use native.Mathlib.Omega.{arith}
use mathlib.Core.Path.{◌≡◌}
use lib.ListN.{length}
use Rattle.fileblocks.specs.FileBlock.{content_at, content_bytes}
use Rattle.saved.specs.File.{file_length, file_blocks_for}
use Rattle.saved.proofs.Cells.{LaterBlocks, later_blocks, read_none, read_more, read_all}
use Rattle.saved.proofs.load.Goals as goal
use Rattle.saved.proofs.load.Goals.{After-as_chunks}

-- the blocks that are read
blocks : (c : After-as_chunks) → LaterBlocks (length c.args.map.now) c.args.file.now c.as_chunks.result.0.now
blocks c = later_blocks c.requires c.as_chunks.ensures.front c.as_chunks.ensures.front_len

pub slice_bounds-as_chunks-count : goal.slice_bounds-as_chunks-count
unfolding file_length
slice_bounds-as_chunks-count c = omega arith

pub slice_bounds-as_chunks-start : goal.slice_bounds-as_chunks-start
unfolding file_length
slice_bounds-as_chunks-start c = omega arith

pub loop-k-init : goal.loop-k-init
loop-k-init c = read_none c.requires

pub slice_bounds-copy-count : goal.slice_bounds-copy-count
unfolding file_blocks_for
slice_bounds-copy-count c = omega (arith, (blocks (goal.at.slice_bounds-copy-count c).After-as_chunks).count, c.loop-k.invariant.same)

pub slice_bounds-copy-start : goal.slice_bounds-copy-start
unfolding file_blocks_for
slice_bounds-copy-start c = omega (arith, (blocks (goal.at.slice_bounds-copy-start c).After-as_chunks).count, c.loop-k.invariant.same)

pub slice_bounds-copy-count-in-loop-k : goal.slice_bounds-copy-count-in-loop-k
unfolding file_blocks_for
slice_bounds-copy-count-in-loop-k c = omega (arith, (blocks (goal.at.slice_bounds-copy-count-in-loop-k c).After-as_chunks).count, c.loop-k.invariant.same)

pub slice_bounds-copy-start-in-loop-k : goal.slice_bounds-copy-start-in-loop-k
unfolding file_blocks_for
slice_bounds-copy-start-in-loop-k c = omega (arith, (blocks (goal.at.slice_bounds-copy-start-in-loop-k c).After-as_chunks).count, c.loop-k.invariant.same)

pub overflow_sub-end : goal.overflow_sub-end
unfolding file_blocks_for
overflow_sub-end c = omega (arith, (blocks (goal.at.overflow_sub-end c).After-as_chunks).count, c.loop-k.invariant.same)

pub loop-k-preserved : goal.loop-k-preserved
loop-k-preserved c =
    let b = blocks (goal.at.loop-k-preserved c).After-as_chunks in
    let size : content_at + (c.min-end.result - content_bytes * c.loop-k.k) - content_at ≡ c.min-end.result - content_bytes * c.loop-k.k = omega arith in
    read_more c.loop-k.invariant (omega (arith, b.count)) (b.found _ (omega arith)) c.min-end.ensures (rw size at c.copy.ensures)

pub returns : goal.returns
returns c = read_all c.loop-k.invariant (omega (arith, (blocks (goal.at.returns c).After-as_chunks).count))
