-- `report::write_run` meets its contract: the number of cells makes the line the run's. Assumes nothing.
use Rattle.std.proofs.Common.{◌≡◌, [], ◌∷◌}
use Rattle.words.specs.Line.{line}
use Rattle.decimal.proofs.Pages.{writes_same, fits_others}
use Rattle.text.specs.Form.{run_word}
use Rattle.report.specs.Report.{run_report}
use Rattle.report.proofs.write_run.Goals as goal
use Rattle.report.proofs.write_run.Goals.{After-cells}

-- the line that is written
printed : (c : After-cells)
    → line run_word (c.from.result ∷ c.from-2.result ∷ c.from-3.result ∷ c.from-4.result ∷ c.cells.result ∷ []) ≡ run_report c.args.run
unfolding run_report
printed c = rw (c.from.ensures, c.from-2.ensures, c.from-3.ensures, c.from-4.ensures, c.cells.ensures)

pub write_line-requires : goal.write_line-requires
write_line-requires c = fits_others c.args.page.now (printed (goal.at.write_line-requires c).After-cells) c.requires.fits

pub returns : goal.returns
returns c = writes_same (printed (goal.at.returns c).After-cells) c.write_line.ensures
