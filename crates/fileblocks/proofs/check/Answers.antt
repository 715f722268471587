-- `fileblocks::check` meets its contract: each byte from the last on has a row of its own, until none is left. Assumes nothing.
use Prim.Native.Nat.{suc, ◌+◌, ◌-◌}
use native.Mathlib.Omega.{arith}
use mathlib.Core.Path.{◌≡◌, refl, ◌∙◌, ap}
use lib.ListN.{take}
use lib.Seq.{take-suc}
use Rattle.fileblocks.specs.FileBlock.{check_at}
use Rattle.fileblocks.proofs.Columns.{rows_none, rows_more, rows_all}
use Rattle.fileblocks.proofs.check.Goals as goal

pub loop-row-init : goal.loop-row-init
loop-row-init c = rows_none c.args.block.now

pub loop-row-preserved : goal.loop-row-preserved
loop-row-preserved c =
    let block = c.args.block.now in
    let k = check_at - c.loop-row.row in
    let here : check_at + 1 - c.loop-row.row ≡ suc k = omega arith in
    let last = ap (λ n. take n block) here ∙ take-suc block k 0 (omega arith) in
    let left : check_at + 1 - (c.loop-row.row + 1) ≡ k = omega arith in
    rw (left, c.from.ensures) (rows_more c.loop-row.invariant last (omega arith))

pub returns : goal.returns
returns c =
    let none : check_at + 1 - c.loop-row.row ≡ 0 = omega arith in
    rows_all (rw none at c.loop-row.invariant) refl c.requires
