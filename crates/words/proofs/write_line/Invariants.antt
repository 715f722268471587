-- `words::write_line` meets its contract. The loop's invariant: the numbers are written but for those from the one at the loop's index on.
-- Assumes nothing.
use Rattle.std.proofs.Common.{drop}
use Rattle.words.specs.Line.{fields, line}
use Rattle.decimal.proofs.Pages.{OnPage}
use Rattle.words.proofs.write_line.Given as goal

abbrev pub invariant-loop-number : goal.invariant-loop-number
invariant-loop-number l = OnPage l.fn.page (line l.word l.numbers) (fields (drop l.number-index l.numbers)) l.page
