-- `fileblocks::write_file_block` meets its contract: the number, the bytes, the filling and the check are written one behind the other. Assumes nothing.
use Rattle.rooms.specs.Lists.{zeros}
use Rattle.fileblocks.proofs.FileBlock.{written_file_block}
use Rattle.fileblocks.proofs.write_file_block.Goals as goal

pub returns : goal.returns
unfolding zeros
returns c =
    written_file_block _ _ c.args.block.now c.requires.0 c.requires.1
    c.put_four.ensures
    c.copy.ensures
    (c.fill.ensures.after (λ y e. e))
    c.check-sum.ensures
    c.put_four-2.ensures
