-- `report::write_cell` meets its contract: a cell of 0 has no line, any other has one. Assumes nothing.
use Rattle.std.proofs.Common.{◌≡◌, [], ◌∷◌, ◌∙◌, sym, ap, arith}
use Rattle.words.specs.Line.{line}
use Rattle.decimal.proofs.Pages.{writes_same, fits_others}
use Rattle.report.specs.Report.{map_word, cell_report}
use Rattle.report.proofs.Cells.{cell_line, none_written}
use Rattle.report.proofs.write_cell.Goals as goal
use Rattle.report.proofs.write_cell.Goals.{After-from}

-- the line that is written is the cell's
printed : (c : After-from) → line map_word (c.args.cell.0 ∷ c.from.result ∷ []) ≡ cell_report c.args.cell.0 c.args.value
printed c = ap (λ v. line map_word (c.args.cell.0 ∷ v ∷ [])) c.from.ensures ∙ sym (cell_line c.args.cell.0 c.args.value (λ e. omega arith))

pub write_line-requires : goal.write_line-requires
write_line-requires c = fits_others c.args.page.now (printed (goal.at.write_line-requires c).After-from) c.requires

pub returns : goal.returns
returns c = writes_same (printed (goal.at.returns c).After-from) c.write_line.ensures

pub returns-then-value-eq0 : goal.returns-then-value-eq0
returns-then-value-eq0 c = none_written c.args.page.now c.args.cell.0 c.args.value c.if-value-eq0.true c.requires
