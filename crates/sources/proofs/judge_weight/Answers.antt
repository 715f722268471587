-- `sources::judge_weight` meets its contract: the first test that fails, or none. Assumes nothing.
use Rattle.scope.specs.Refusal.{weight_tests}
use Rattle.scope.proofs.Judged.{first, fine, blamed}
use Rattle.scope.proofs.Verdicts.{stopped, passed}
use Rattle.sources.proofs.judge_weight.Goals as goal

pub returns-in_err-when : goal.returns-in_err-when
unfolding weight_tests
returns-in_err-when c = stopped (first (blamed c.when.ensures c.in_err-when.was)) c.from_residual.ensures.1

pub returns : goal.returns
unfolding weight_tests
returns c = passed _ (fine c.when.ensures c.in_ok-when.was) (rw c.from.ensures at c.when-2.ensures)
