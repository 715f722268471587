-- `scope::judge_window` meets its contract: the first test that fails, or none. Assumes nothing.
use Rattle.scope.specs.Refusal.{window_tests}
use Rattle.scope.proofs.Judged.{first, then, both, fine, blamed}
use Rattle.scope.proofs.Verdicts.{stopped, passed}
use Rattle.scope.proofs.judge_window.Goals as goal

pub returns-in_err-when : goal.returns-in_err-when
unfolding window_tests
returns-in_err-when c = stopped (first (first (blamed c.when.ensures c.in_err-when.was))) c.from_residual.ensures.1

pub returns-in_err-when-2 : goal.returns-in_err-when-2
unfolding window_tests
returns-in_err-when-2 c = stopped (first (then (fine c.when.ensures c.in_ok-when.was) (blamed c.when-2.ensures c.in_err-when-2.was))) c.from_residual-in_err-when-2.ensures.1

pub returns : goal.returns
unfolding window_tests
returns c = passed _ (both (fine c.when.ensures c.in_ok-when.was) (fine c.when-2.ensures c.in_ok-when-2.was)) c.when-3.ensures
