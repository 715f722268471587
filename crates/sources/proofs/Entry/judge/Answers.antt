-- `sources::Entry::judge` meets its contract: the period's verdict comes before the weight's and that before the phase's. Assumes nothing.
use Rattle.sources.specs.Entry.{entry_tests}
use Rattle.scope.proofs.Verdicts.{joined}
use Rattle.sources.proofs.Entry.judge.Goals as goal

pub returns : goal.returns
unfolding entry_tests
returns c = joined _ _ (joined _ _ c.judge_period.ensures c.judge_weight.ensures c.and.ensures) c.judge_phase.ensures c.and-2.ensures
