-- `scope::at_source` meets its contract, case by case. Assumes nothing.
use Rattle.scope.specs.Inner.{at_source}
use Rattle.scope.proofs.at_source.Goals as goal

pub returns-in-Ok : goal.returns-in-Ok
unfolding at_source
returns-in-Ok c = simp c.in-Ok.is

pub returns-in-Err : goal.returns-in-Err
unfolding at_source
returns-in-Err c = simp c.in-Err.is
