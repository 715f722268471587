-- `saved::judge_cells` meets its contract: each turn judges one block. Assumes nothing.
use native.Mathlib.Omega.{arith}
use Rattle.scope.proofs.Judged.{grant_verdict}
use Rattle.scope.proofs.Verdicts.{stopped}
use Rattle.saved.specs.File.{file_length, file_blocks_for}
use Rattle.saved.proofs.Cells.{LaterBlocks, later_blocks}
use Rattle.saved.proofs.Judging.{judged_none, judged_more, judged_fails, judged_all}
use Rattle.saved.proofs.judge_cells.Goals as goal
use Rattle.saved.proofs.judge_cells.Goals.{After-as_chunks}

-- the blocks that are judged
blocks : (c : After-as_chunks) → LaterBlocks c.args.size c.args.file.now c.as_chunks.result.0.now
blocks c = later_blocks c.requires.1 c.as_chunks.ensures.front c.as_chunks.ensures.front_len

pub slice_bounds-as_chunks-count : goal.slice_bounds-as_chunks-count
unfolding file_length
slice_bounds-as_chunks-count c = omega arith

pub slice_bounds-as_chunks-start : goal.slice_bounds-as_chunks-start
unfolding file_length
slice_bounds-as_chunks-start c = omega arith

pub loop-k-init : goal.loop-k-init
loop-k-init c = judged_none

pub overflow_cast-k : goal.overflow_cast-k
unfolding file_blocks_for
overflow_cast-k c = omega (arith, (blocks (goal.at.overflow_cast-k c).After-as_chunks).count)

pub overflow_sub-size : goal.overflow_sub-size
unfolding file_blocks_for
overflow_sub-size c = omega (arith, (blocks (goal.at.overflow_sub-size c).After-as_chunks).count)

pub bounds-later-k : goal.bounds-later-k
unfolding file_blocks_for
bounds-later-k c = omega (arith, (blocks (goal.at.bounds-later-k c).After-as_chunks).count)

pub loop-k-preserved : goal.loop-k-preserved
unfolding file_blocks_for
loop-k-preserved c =
    let b = blocks (goal.at.loop-k-preserved c).After-as_chunks in
    judged_more c.loop-k.invariant (omega (arith, b.count)) (b.found _ (omega arith)) c.judge_file_block.ensures c.in_ok-judge_file_block.was

pub returns-in_err-judge_file_block : goal.returns-in_err-judge_file_block
unfolding file_blocks_for
returns-in_err-judge_file_block c =
    let b = blocks (goal.at.returns-in_err-judge_file_block c).After-as_chunks in
    stopped (judged_fails c.loop-k.invariant (omega (arith, b.count)) (b.found _ (omega arith)) c.judge_file_block.ensures c.in_err-judge_file_block.was) c.from_residual.ensures.1

pub returns : goal.returns
unfolding file_blocks_for
returns c = grant_verdict (judged_all c.loop-k.invariant (omega (arith, (blocks (goal.at.returns c).After-as_chunks).count)))
