-- `scope::judge_run` meets its contract: the first test that fails, or none. Assumes nothing.
use Rattle.scope.specs.Refusal.{run_tests}
use Rattle.scope.proofs.Judged.{first, then, both, fine, blamed}
use Rattle.scope.proofs.Verdicts.{stopped, passed}
use Rattle.scope.proofs.judge_run.Goals as goal

pub returns-in_err-judge_window : goal.returns-in_err-judge_window
unfolding run_tests
returns-in_err-judge_window c = stopped (first (first (blamed c.judge_window.ensures c.in_err-judge_window.was))) c.from_residual.ensures.1

pub returns-in_err-judge_lines : goal.returns-in_err-judge_lines
unfolding run_tests
returns-in_err-judge_lines c =
    stopped (first (then (fine c.judge_window.ensures c.in_ok-judge_window.was) (blamed c.judge_lines.ensures c.in_err-judge_lines.was))) c.from_residual-in_err-judge_lines.ensures.1

pub returns : goal.returns
unfolding run_tests
returns c = passed _ (both (fine c.judge_window.ensures c.in_ok-judge_window.was) (fine c.judge_lines.ensures c.in_ok-judge_lines.was)) c.when.ensures
