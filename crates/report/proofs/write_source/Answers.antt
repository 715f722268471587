-- `report::write_source` meets its contract: the number of hits that is counted makes the line the source's. Assumes nothing.
use Rattle.std.proofs.Common.{◌≡◌, [], ◌∷◌}
use Rattle.words.specs.Line.{line}
use Rattle.decimal.proofs.Pages.{writes_same, fits_others}
use Rattle.text.specs.Form.{src_word}
use Rattle.report.specs.Report.{entry_report}
use Rattle.report.proofs.write_source.Goals as goal
use Rattle.report.proofs.write_source.Goals.{After-count_hits}

-- the line that is written
printed : (c : After-count_hits)
    → line src_word (c.args.place ∷ c.from.result ∷ c.from-2.result ∷ c.from-3.result ∷ c.count_hits.result ∷ []) ≡ entry_report c.args.run c.args.place c.args.entry
unfolding entry_report
printed c = rw (c.from.ensures, c.from-2.ensures, c.from-3.ensures, c.count_hits.ensures)

pub write_line-requires : goal.write_line-requires
write_line-requires c = fits_others c.args.page.now (printed (goal.at.write_line-requires c).After-count_hits) c.requires.fits

pub returns : goal.returns
returns c = writes_same (printed (goal.at.returns c).After-count_hits) c.write_line.ensures
