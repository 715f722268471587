-- `saved::file_length` meets its contract: a quotient that is rounded up is the definition's. Assumes nothing.
use native.Mathlib.Omega.{arith}
use Rattle.saved.specs.File.{file_length, file_blocks_for}
use Rattle.saved.proofs.file_length.Goals as goal

pub returns : goal.returns
unfolding file_length file_blocks_for
returns c = omega (arith, c.div_ceil.ensures)
