-- `fileblocks::four_at` meets its contract: the bytes are weighted as the definition weights them. Assumes nothing.
use native.Mathlib.Omega.{arith}
use Rattle.fileblocks.specs.FileBlock.{four_at}
use Rattle.fileblocks.proofs.four_at.Goals as goal

pub returns : goal.returns
unfolding four_at
returns c = omega arith
