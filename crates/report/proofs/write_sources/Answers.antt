-- `report::write_sources` meets its contract. The loop's invariant: the lines of the sources with fewer than k before them are written.
-- Assumes nothing.
use Rattle.std.proofs.Common.{◌≡◌, Some, length, ap, arith}
use Rattle.std.specs.List.{slice_get}
use Rattle.decimal.proofs.Pages.{page_fits, page_more, page_ends}
use Rattle.text.specs.Promise.{sources_in}
use Rattle.report.specs.Report.{entry_report, src_report}
use Rattle.report.proofs.Sources.{from_source, no_source, source_valid}
use Rattle.report.proofs.write_sources.Goals as goal
use Rattle.report.proofs.write_sources.Goals.{After-entry}

-- the source of this turn
here : (c : After-entry) → slice_get (sources_in c.args.input.now) c.loop-k.k ≡ Some c.entry.result
here c = rw c.sources-sources.ensures at c.entry.ensures

pub write_source-requires-clause-valid : goal.write_source-requires-clause-valid
write_source-requires-clause-valid c =
    let at = goal.at.write_source-requires-clause-valid c in
    (c.requires.valid.valid, source_valid _ _ c.requires.valid (here at.After-entry), c.requires.valid.few)

pub write_source-requires-clause-fits : goal.write_source-requires-clause-fits
write_source-requires-clause-fits c =
    page_fits c.loop-k.invariant (entry_report _ _ _) (src_report _ _ _) (from_source _ _ _ _ (here (goal.at.write_source-requires-clause-fits c).After-entry))

pub loop-k-preserved : goal.loop-k-preserved
loop-k-preserved c =
    page_more c.loop-k.invariant (from_source _ _ _ _ (here (goal.at.loop-k-preserved c).After-entry)) c.write_source.ensures

pub returns : goal.returns
returns c = page_ends c.loop-k.invariant (no_source _ _ _ (omega (arith, c.len-k-end.ensures, ap length c.sources-sources.ensures)))
