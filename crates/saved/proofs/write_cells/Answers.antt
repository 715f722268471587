-- `saved::write_cells` meets its contract: each turn writes one whole block. Assumes nothing.
use native.Mathlib.Omega.{arith}
use mathlib.Core.Path.{◌∙◌}
use Rattle.std.specs.Slice.Iter.{chunks_rest}
use Rattle.fileblocks.specs.FileBlock.{content_bytes}
use Rattle.saved.proofs.Walk.{Next}
use Rattle.saved.proofs.Cells.{cells_none, cells_room, cells_more, cells_all}
use Rattle.saved.proofs.write_cells.Goals as goal
use Rattle.saved.proofs.write_cells.Goals.{In-Some}

-- the next cells of the map
next : (c : In-Some) → Next content_bytes (chunks_rest c.loop-k.k-iterator.iter) c.in-Some.cells.now (chunks_rest c.next.new.self.iter)
next c =
    let step = c.in-Some.ensures.steps.0.1 in
    record { some = step.2; cut = step.0; long = omega (arith, step.1, c.loop-k.invariant.pieces) }

pub loop-k-init : goal.loop-k-init
loop-k-init c =
    rw (c.into_iter-k-iterator.ensures.into_iter_gives, c.enumerate-k-items.ensures.source, c.enumerate-k-items.ensures.count, c.chunks.ensures.rest)
    record { pieces = c.chunks.ensures.size; far = cells_none c.requires.0 c.requires.1 }

pub slice_bounds-write_file_block-end : goal.slice_bounds-write_file_block-end
slice_bounds-write_file_block-end c =
    let n = next (goal.at.slice_bounds-write_file_block-end c).In-Some in
    omega (arith, cells_room c.loop-k.invariant.far n.some, c.in-Some.ensures.steps.1)

pub loop-k-preserved : goal.loop-k-preserved
loop-k-preserved c =
    let step = c.in-Some.ensures.steps in
    let n = next (goal.at.loop-k-preserved c).In-Some in
    record {
      pieces = step.0.0 ∙ c.loop-k.invariant.pieces;
      far = rw (step.2, step.1) (cells_more c.loop-k.invariant.far n (rw step.1 at c.write_file_block.ensures));
    }

pub returns : goal.returns
returns c = cells_all c.loop-k.invariant.far c.in-None.ensures.steps.0.1.0
