-- `sources::judge_lists` meets its contract: the tests of the lengths come before those of the sources. Assumes nothing.
use Rattle.scope.proofs.Judged.{first, then, both, fine, blamed}
use Rattle.sources.specs.Entry.{source_lists_tests}
use Rattle.sources.proofs.Granted.{withheld, grants, refused_by, granted_by}
use Rattle.sources.proofs.judge_lists.Goals as goal

pub returns-in_err-sources : goal.returns-in_err-sources
unfolding source_lists_tests
returns-in_err-sources c = withheld _ (first (refused_by _ c.try_new.ensures c.in_err-sources.was)) c.from_residual.ensures.1

pub returns-in_err-judge : goal.returns-in_err-judge
unfolding source_lists_tests
returns-in_err-judge c =
    let lists = granted_by _ c.try_new.ensures c.in_ok-sources.was in
    withheld _ (then lists.0 (blamed (rw lists.1 at c.judge.ensures) c.in_err-judge.was)) c.from_residual-in_err-judge.ensures.1

pub returns : goal.returns
unfolding source_lists_tests
returns c =
    let lists = granted_by _ c.try_new.ensures c.in_ok-sources.was in
    grants (both lists.0 (fine (rw lists.1 at c.judge.ensures) c.in_ok-judge.was)) lists.1
