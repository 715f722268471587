-- `fileblocks::put_four` meets its contract: the bytes are the number's, the lowest first. Assumes nothing.
use mathlib.Core.Path.{◌∙◌}
use Rattle.fileblocks.proofs.FileBlock.{four_is}
use Rattle.fileblocks.proofs.put_four.Goals as goal

pub returns : goal.returns
returns c = c.copy_from_slice.ensures.after ∙ c.to_le_bytes.ensures ∙ four_is c.args.number
