-- `scope::judge_phase` meets its contract: its one test. Assumes nothing.
use Rattle.scope.specs.Refusal.{phase_tests}
use Rattle.scope.proofs.judge_phase.Goals as goal

pub returns : goal.returns
unfolding phase_tests
returns c = c.when.ensures
