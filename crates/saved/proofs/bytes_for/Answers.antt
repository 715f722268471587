-- `saved::bytes_for` meets its contract: a cell is one byte. Assumes nothing.
use Rattle.saved.specs.File.{bytes_for}
use Rattle.saved.proofs.bytes_for.Goals as goal

pub returns : goal.returns
unfolding bytes_for
returns c = c.cells.ensures
