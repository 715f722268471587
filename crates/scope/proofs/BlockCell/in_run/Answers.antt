-- `scope::BlockCell::in_run` meets its contract: a cell number and a shift are far below 2 ^ 64. Assumes nothing.
use native.Mathlib.Omega.{arith}
use Rattle.scope.proofs.Limits.{cells_few}
use Rattle.scope.proofs.Numbering.{shift_few}
use Rattle.scope.proofs.BlockCell.in_run.Goals as goal

pub overflow_add-result : goal.overflow_add-result
overflow_add-result c =
    let p = c.requires in
    let few = shift_few p.0 p.2 in
    let cells = cells_few p.2 in
    let shift = c.block_shift-shift.ensures in
    omega arith
