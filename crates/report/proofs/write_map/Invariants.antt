-- `report::write_map` meets its contract. The loop's invariant: the lines of the cells below x are written. Assumes nothing.
use Rattle.std.proofs.Common.{drop}
use Rattle.decimal.proofs.Pages.{OnPage}
use Rattle.report.specs.Report.{map_report}
use Rattle.report.proofs.write_map.Given as goal

abbrev pub invariant-loop-x : goal.invariant-loop-x
invariant-loop-x l = OnPage l.initial.page (map_report 0 l.map) (map_report l.x (drop l.x l.map)) l.page
