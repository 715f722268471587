-- `vectors::judge` meets its contract: the first test that fails, or none. Assumes nothing.
use Rattle.scope.proofs.Judged.{first, then, both, fine, blamed}
use Rattle.scope.proofs.Verdicts.{stopped, passed}
use Rattle.vectors.specs.Promise.{vectors_tests}
use Rattle.vectors.proofs.judge.Goals as goal

pub returns-in_err-judge_window : goal.returns-in_err-judge_window
unfolding vectors_tests
returns-in_err-judge_window c = stopped (first (first (first (blamed c.judge_window.ensures c.in_err-judge_window.was)))) c.from_residual.ensures.1

pub returns-in_err-judge_period : goal.returns-in_err-judge_period
unfolding vectors_tests
returns-in_err-judge_period c =
    stopped
    (first (first (then (fine c.judge_window.ensures c.in_ok-judge_window.was) (blamed c.judge_period.ensures c.in_err-judge_period.was))))
    c.from_residual-in_err-judge_period.ensures.1

pub returns-in_err-when : goal.returns-in_err-when
unfolding vectors_tests
returns-in_err-when c =
    let earlier = both (fine c.judge_window.ensures c.in_ok-judge_window.was) (fine c.judge_period.ensures c.in_ok-judge_period.was) in
    stopped (first (then earlier (blamed c.when.ensures c.in_err-when.was))) c.from_residual-in_err-when.ensures.1

pub returns : goal.returns
unfolding vectors_tests
returns c =
    let earlier = both (fine c.judge_window.ensures c.in_ok-judge_window.was) (fine c.judge_period.ensures c.in_ok-judge_period.was) in
    passed _ (both earlier (fine c.when.ensures c.in_ok-when.was)) c.when-2.ensures
