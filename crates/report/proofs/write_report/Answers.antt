-- `report::write_report` meets its contract: the three parts are the whole. Assumes nothing.
use Rattle.std.proofs.Common.{◌++◌, refl}
use Rattle.decimal.proofs.Pages.{OnPage, page_starts, page_fits, page_fits_last, page_more, page_last}
use Rattle.text.specs.Promise.{sources_in}
use Rattle.report.specs.Report.{run_report, src_report, cells_report, whole_report}
use Rattle.report.proofs.write_report.Goals as goal
use Rattle.report.proofs.write_report.Goals.{Start, After-write_run, After-write_sources}

-- the whole is to be written; the run's line is written, and after it those of the sources
starts : (c : Start)
    → let i = c.args.input.now in
    OnPage c.args.page.now (whole_report i.run (sources_in i)) (whole_report i.run (sources_in i)) c.args.page.now
starts c = page_starts _ _ c.requires.fits

run_written : (c : After-write_run)
    → let i = c.args.input.now in
    OnPage c.args.page.now (whole_report i.run (sources_in i)) (src_report i.run 1 (sources_in i) ++ cells_report i.run (sources_in i)) c.write_run.new.page
unfolding whole_report
run_written c = page_more (starts (goal.at.After-write_run c).Start) refl c.write_run.ensures

sources_written : (c : After-write_sources)
    → let i = c.args.input.now in
    OnPage c.args.page.now (whole_report i.run (sources_in i)) (cells_report i.run (sources_in i)) c.write_sources.new.page
sources_written c = page_more (run_written (goal.at.After-write_sources c).After-write_run) refl c.write_sources.ensures

pub write_run-requires-clause-fits : goal.write_run-requires-clause-fits
unfolding whole_report
write_run-requires-clause-fits c =
    page_fits (starts (goal.at.write_run-requires-clause-fits c).Start) (run_report _) (src_report _ _ _ ++ cells_report _ _) refl

pub write_sources-requires-clause-fits : goal.write_sources-requires-clause-fits
write_sources-requires-clause-fits c =
    page_fits (run_written (goal.at.write_sources-requires-clause-fits c).After-write_run) (src_report _ _ _) (cells_report _ _) refl

pub write_map_of-requires-clause-fits : goal.write_map_of-requires-clause-fits
write_map_of-requires-clause-fits c =
    page_fits_last (sources_written (goal.at.write_map_of-requires-clause-fits c).After-write_sources) (cells_report _ _) refl

pub returns : goal.returns
returns c = page_last (sources_written (goal.at.returns c).After-write_sources) c.write_map_of.ensures
