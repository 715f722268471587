-- `scope::judge_source` meets its contract: the period's verdict comes before the phase's. Assumes nothing.
use Rattle.scope.specs.Refusal.{source_tests}
use Rattle.scope.proofs.Verdicts.{joined}
use Rattle.scope.proofs.judge_source.Goals as goal

pub returns : goal.returns
unfolding source_tests
returns c = joined _ _ c.judge_period.ensures c.judge_phase.ensures c.and.ensures
