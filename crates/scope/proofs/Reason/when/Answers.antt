-- `Reason::when` meets its contract: one test, broken or sound. Assumes nothing.
use Rattle.scope.proofs.Judged.{broken, sound, refuse_verdict, grant_verdict}
use Rattle.scope.proofs.Reason.when.Goals as goal

pub returns-then-wrong : goal.returns-then-wrong
returns-then-wrong c = rw c.alone.ensures (refuse_verdict (broken c.if-wrong.true))

pub returns-else-wrong : goal.returns-else-wrong
returns-else-wrong c = grant_verdict (sound c.if-wrong.false)
