-- `decimal::Page::write_digit` meets its contract: it stores one byte. The check finds this alone, but not at half its limits.
-- Assumes nothing.
use Rattle.std.proofs.Common.{refl}
use Rattle.rooms.proofs.Written.{written_one}
use Rattle.decimal.proofs.Page.write_digit.Goals as goal

pub returns : goal.returns
returns c = record { same_room = refl; written = written_one _ _ _ c.requires.1 }
