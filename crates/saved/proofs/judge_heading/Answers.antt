-- `saved::judge_heading` meets its contract: each return is the first test that fails, or none. Assumes nothing.
use Rattle.scope.proofs.Judged.{first, then, both, fine, blamed}
use Rattle.scope.proofs.Verdicts.{stopped, passed}
use Rattle.saved.specs.File.{heading_tests}
use Rattle.saved.proofs.judge_heading.Goals as goal

pub returns-in_err-judge_file_block : goal.returns-in_err-judge_file_block
unfolding heading_tests
returns-in_err-judge_file_block c = stopped (first (first (blamed c.judge_file_block.ensures c.in_err-judge_file_block.was))) c.from_residual.ensures.1

pub returns-in_err-when : goal.returns-in_err-when
unfolding heading_tests
returns-in_err-when c =
    stopped (first (then (fine c.judge_file_block.ensures c.in_ok-judge_file_block.was) (blamed c.when.ensures c.in_err-when.was))) c.from_residual-in_err-when.ensures.1

pub returns : goal.returns
unfolding heading_tests
returns c =
    passed _
    (both (fine c.judge_file_block.ensures c.in_ok-judge_file_block.was) (fine c.when.ensures c.in_ok-when.was))
    (rw c.zeros_from.ensures at c.when-2.ensures)
