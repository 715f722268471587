-- `scope::block_shift` meets its contract: a shift is no larger than a run can be. Assumes nothing.
use mathlib.Core.Path.{refl}
use Rattle.scope.specs.Run.{shift_of}
use Rattle.scope.proofs.block_shift.Goals as goal

pub returns : goal.returns
unfolding shift_of
returns c = refl
