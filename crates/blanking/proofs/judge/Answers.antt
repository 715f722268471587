-- `blanking::judge` meets its contract: a return for each group of tests, in their order. Assumes nothing.
use native.Mathlib.Omega.{arith}
use lib.Dec.{eqb}
use Rattle.scope.specs.Refusal.{◌when◌, ◌and_then◌, run_tests}
use Rattle.scope.specs.declared.Reason.TheVariants.{Threshold}
use Rattle.scope.proofs.Judged.{Passes, first, then, both, fine, blamed}
use Rattle.scope.proofs.Verdicts.{stopped, passed}
use Rattle.scope.proofs.Limits.{valid_run}
use Rattle.blanking.specs.Promise.{asked_tests}
use Rattle.blanking.proofs.judge.Goals as goal
use Rattle.blanking.proofs.judge.Goals.{In_ok-judge_run, In_ok-when}

-- what the verdicts tell
run_passes : (c : In_ok-judge_run) → Passes (run_tests c.args.run)
run_passes c = fine c.judge_run.ensures c.in_ok-judge_run.was

threshold_passes : (c : In_ok-when) → Passes (run_tests c.args.run and_then Threshold when eqb c.args.threshold 0)
threshold_passes c = both (run_passes (goal.at.In_ok-when c).In_ok-judge_run) (fine c.when.ensures c.in_ok-when.was)

pub returns-in_err-judge_run : goal.returns-in_err-judge_run
unfolding asked_tests
returns-in_err-judge_run c = stopped (first (first (first (blamed c.judge_run.ensures c.in_err-judge_run.was)))) c.from_residual.ensures.1

pub returns-in_err-when : goal.returns-in_err-when
unfolding asked_tests
returns-in_err-when c = stopped (first (first (then (run_passes (goal.at.returns-in_err-when c).In_ok-judge_run) (blamed c.when.ensures c.in_err-when.was)))) c.from_residual-in_err-when.ensures.1

pub returns-in_err-judge_guard : goal.returns-in_err-judge_guard
unfolding asked_tests
returns-in_err-judge_guard c = stopped (first (then (threshold_passes (goal.at.returns-in_err-judge_guard c).In_ok-when) (blamed c.judge_guard.ensures c.in_err-judge_guard.was))) c.from_residual-in_err-judge_guard.ensures.1

pub cells-requires : goal.cells-requires
cells-requires c = valid_run (run_passes (goal.at.cells-requires c).In_ok-judge_run) (omega (arith, c.well_formed.0))

pub returns : goal.returns
unfolding asked_tests
returns c = passed _ (both (threshold_passes (goal.at.returns c).In_ok-when) (fine c.judge_guard.ensures c.in_ok-judge_guard.was)) (rw c.cells.ensures at c.when-2.ensures)
