-- `text::read_source` meets its contract: a line with three numbers is a `src` line with a phase, one with two a line without.
-- Assumes nothing.
use Rattle.text.proofs.Lines.{phased_stands, unphased_stands}
use Rattle.text.proofs.read_source.Goals as goal

pub returns-in-Ok : goal.returns-in-Ok
returns-in-Ok c = phased_stands c.in-Ok.ensures c.read_line.auto.room c.entry_with.ensures

pub returns : goal.returns
returns c = unphased_stands c.in-Ok-read_line.ensures c.read_line-2.auto.room c.entry_with-2.ensures
