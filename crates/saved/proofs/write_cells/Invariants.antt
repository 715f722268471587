-- `saved::write_cells` meets its contract. The invariant of its loop: the room is written with the first k blocks of cells, and the cells
-- behind those are to come. Assumes nothing.
use mathlib.Core.Path.{◌≡◌}
use Rattle.std.specs.Slice.Iter.{chunks_rest, chunks_size}
use Rattle.fileblocks.specs.FileBlock.{content_bytes}
use Rattle.saved.proofs.Cells.{CellsWritten}
use Rattle.saved.proofs.write_cells.Given as goal

abbrev pub invariant-loop-k : goal.invariant-loop-k
invariant-loop-k l = record {
  pieces : chunks_size l.k-iterator.iter ≡ content_bytes;
  far : CellsWritten l.map (chunks_rest l.k-iterator.iter) l.initial.room l.room l.k-iterator.count;
}
