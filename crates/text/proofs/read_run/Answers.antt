-- `text::read_run` meets its contract: the `run` line that the text begins with. Assumes nothing.
use Rattle.std.proofs.Common.{refl, arith}
use Rattle.text.proofs.Answers.{no_run}
use Rattle.text.proofs.Lines.{line_run}
use Rattle.text.proofs.read_run.Goals as goal

pub returns-in_default : goal.returns-in_default
returns-in_default c = (refl, no_run refl c.in_default.ensures.1)

pub returns : goal.returns
returns c = (omega arith, line_run c.in-Ok.ensures c.read_line.auto.room c.new.ensures)
