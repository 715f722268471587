-- `fileblocks::judge_file_block` meets its contract: 14 comes of the number or the check, and past them 15 of the filling. Assumes nothing.
use Rattle.scope.proofs.Judged.{first, fine, blamed}
use Rattle.scope.proofs.Verdicts.{stopped, passed}
use Rattle.fileblocks.specs.FileBlock.{contents, file_block_tests}
use Rattle.fileblocks.proofs.judge_file_block.Goals as goal

pub returns-in_err-when : goal.returns-in_err-when
unfolding file_block_tests
returns-in_err-when c = stopped (first (blamed (rw c.is_sealed-sealed.ensures at c.when.ensures) c.in_err-when.was)) c.from_residual.ensures.1

pub returns : goal.returns
unfolding file_block_tests contents
returns c =
    passed _
    (fine (rw c.is_sealed-sealed.ensures at c.when.ensures) c.in_ok-when.was)
    (rw c.zeros_from-filled.ensures at c.when-2.ensures)
