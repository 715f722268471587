-- `map::judge` meets its contract: the first of its groups of tests that fails, or the sources. Assumes nothing.
use native.Mathlib.Omega.{arith}
use Rattle.scope.proofs.Judged.{first, then, both, fine, blamed}
use Rattle.scope.proofs.Limits.{valid_run}
use Rattle.sources.proofs.Granted.{withheld, grants, refused_by, granted_by}
use Rattle.map.specs.Promise.{map_tests}
use Rattle.map.proofs.judge.Goals as goal

pub returns-in_err-judge_run : goal.returns-in_err-judge_run
unfolding map_tests
returns-in_err-judge_run c = withheld _ (first (first (blamed c.judge_run.ensures c.in_err-judge_run.was))) c.from_residual.ensures.1

pub returns-in_err-sources : goal.returns-in_err-sources
unfolding map_tests
returns-in_err-sources c =
    withheld _ (first (then (fine c.judge_run.ensures c.in_ok-judge_run.was) (refused_by _ c.judge_lists.ensures c.in_err-sources.was))) c.from_residual-in_err-sources.ensures.1

pub cells-requires : goal.cells-requires
cells-requires c = valid_run (fine c.judge_run.ensures c.in_ok-judge_run.was) (omega (arith, c.well_formed.0))

pub returns-in_err-when : goal.returns-in_err-when
unfolding map_tests
returns-in_err-when c =
    let lists = granted_by _ c.judge_lists.ensures c.in_ok-sources.was in
    withheld _ (then (both (fine c.judge_run.ensures c.in_ok-judge_run.was) lists.0) (blamed (rw c.cells.ensures at c.when.ensures) c.in_err-when.was)) c.from_residual-in_err-when.ensures.1

pub returns : goal.returns
unfolding map_tests
returns c =
    let lists = granted_by _ c.judge_lists.ensures c.in_ok-sources.was in
    grants (both (both (fine c.judge_run.ensures c.in_ok-judge_run.was) lists.0) (fine (rw c.cells.ensures at c.when.ensures) c.in_ok-when.was)) lists.1
