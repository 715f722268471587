-- `report::write_sources` meets its contract. The loop's invariant: the lines of the sources with fewer than k before them are written.
-- Assumes nothing.
use Rattle.std.proofs.Common.{◌+◌, drop}
use Rattle.decimal.proofs.Pages.{OnPage}
use Rattle.text.specs.Promise.{sources_in}
use Rattle.report.specs.Report.{src_report}
use Rattle.report.proofs.write_sources.Given as goal

abbrev pub invariant-loop-k : goal.invariant-loop-k
invariant-loop-k l =
    OnPage l.initial.page (src_report l.input.run 1 (sources_in l.input)) (src_report l.input.run (l.k + 1) (drop l.k (sources_in l.input))) l.page
