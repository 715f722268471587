-- `scope::judge_lines` meets its contract: the first test that fails, or none. Assumes nothing.
use Rattle.scope.specs.Refusal.{line_tests}
use Rattle.scope.proofs.Judged.{first, fine, blamed}
use Rattle.scope.proofs.Verdicts.{stopped, passed}
use Rattle.scope.proofs.judge_lines.Goals as goal

pub returns-in_err-when : goal.returns-in_err-when
unfolding line_tests
returns-in_err-when c = stopped (first (blamed c.when.ensures c.in_err-when.was)) c.from_residual.ensures.1

pub returns : goal.returns
unfolding line_tests
returns c = passed _ (fine c.when.ensures c.in_ok-when.was) c.when-2.ensures
