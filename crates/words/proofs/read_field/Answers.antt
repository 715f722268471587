-- `words::read_field` meets its contract: a space, and the number that is read after it. Assumes nothing.
use mathlib.Core.Path.{refl}
use Rattle.words.proofs.Lines.{field_bad}
use Rattle.words.proofs.read_field.Goals as goal

pub returns-in_default-read_number : goal.returns-in_default-read_number
returns-in_default-read_number c = (refl, field_bad c.in-Ok.ensures c.in_default-read_number.ensures)
