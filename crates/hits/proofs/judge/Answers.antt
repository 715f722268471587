-- `hits::judge` meets its contract: the first complaint of the run, the source and the start counts. Assumes nothing.
use Rattle.std.proofs.Common.{arith}
use Rattle.scope.proofs.Judged.{first, then, both, fine, blamed}
use Rattle.scope.proofs.Limits.{valid_run}
use Rattle.scope.proofs.Verdicts.{stopped, passed}
use Rattle.hits.specs.Promise.{first_hit_tests}
use Rattle.hits.proofs.judge.Goals as goal

pub returns-in_err-judge_run : goal.returns-in_err-judge_run
unfolding first_hit_tests
returns-in_err-judge_run c = stopped (first (first (blamed c.judge_run.ensures c.in_err-judge_run.was))) c.from_residual.ensures.1

pub returns-in_err-judge_source : goal.returns-in_err-judge_source
unfolding first_hit_tests
returns-in_err-judge_source c =
    stopped (first (then (fine c.judge_run.ensures c.in_ok-judge_run.was) (blamed c.judge_source.ensures c.in_err-judge_source.was))) c.from_residual-in_err-judge_source.ensures.1

pub cells-requires : goal.cells-requires
cells-requires c = valid_run (fine c.judge_run.ensures c.in_ok-judge_run.was) (omega (arith, c.well_formed.0))

pub returns : goal.returns
unfolding first_hit_tests
returns c = passed _ (both (fine c.judge_run.ensures c.in_ok-judge_run.was) (fine c.judge_source.ensures c.in_ok-judge_source.was)) (rw c.cells.ensures at c.when.ensures)
