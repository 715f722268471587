-- `trial::turning::in_run` is safe and ends: a block is a block of itself, whose cells are not moved. Assumes nothing.
use Rattle.std.proofs.Common.{refl, ap, arith}
use Rattle.scope.specs.declared.Run.{Run}
use Rattle.scope.specs.declared.BlockCell.{BlockCell}
use Rattle.scope.specs.Inner.{IsBlock}
use Rattle.scope.specs.Run.{ValidRun}
use Rattle.scope.proofs.Judged.{fine}
use Rattle.scope.proofs.Limits.{valid_run}
use Rattle.scope.proofs.Numbering.{shift_first}
use Rattle.trial.proofs.turning.in_run.Goals as goal
use Rattle.trial.proofs.turning.in_run.Goals.{Else-first-run}

own_block : (block : Run) → IsBlock block block
own_block block = record { window = refl; interval = refl; from = omega arith; to = omega arith }

-- the block is a run too
valid_block : (c : Else-first-run) → ValidRun (record { window = c.args.run.window; interval = c.args.run.interval; first = c.args.first; last = c.args.run.last })
valid_block c = valid_run (fine c.judge_run-2.ensures c.in-Ok-Ok.is-1) (omega arith)

pub cells-all-requires : goal.cells-all-requires
cells-all-requires c = valid_block (goal.at.cells-all-requires c).Else-first-run

pub in_block-requires : goal.in_block-requires
in_block-requires c =
    let own = c.args in
    let block : Run = record { window = own.run.window; interval = own.run.interval; first = own.first; last = own.run.last } in
    let valid = valid_block (goal.at.in_block-requires c).Else-first-run in
    (valid, own_block block, valid, omega (arith, shift_first block block refl))

pub in_run-requires : goal.in_run-requires
in_run-requires c =
    let same = ap (λ (cell : BlockCell). cell.0) c.in_block.ensures in (
      valid_run (fine c.judge_run.ensures c.in-Ok-Ok.is-0) (omega arith),
      record { window = refl; interval = refl; from = c.if-first-run.false; to = omega arith },
      valid_block (goal.at.in_run-requires c).Else-first-run,
      omega (arith, c.if-all-cell.false, c.cells-all.ensures),
    )
