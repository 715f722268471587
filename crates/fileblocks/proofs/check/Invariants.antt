-- `fileblocks::check` meets its contract. The invariant of its loop: `total` is the running total of the rows so far and `sum` the sum of
-- their totals, both small; the bytes of the rows to come are left. Assumes nothing.
use Prim.Native.Nat.{◌+◌, ◌-◌}
use lib.ListN.{take}
use Rattle.fileblocks.specs.FileBlock.{check_at}
use Rattle.fileblocks.proofs.Columns.{Rows}
use Rattle.fileblocks.proofs.check.Given as goal

abbrev pub invariant-loop-row : goal.invariant-loop-row
invariant-loop-row l = Rows l.block (take (check_at + 1 - l.row) l.block) l.total l.sum
