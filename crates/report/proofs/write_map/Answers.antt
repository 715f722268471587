-- `report::write_map` meets its contract. The loop's invariant: the lines of the cells below x are written. Assumes nothing.
use Rattle.decimal.proofs.Pages.{page_fits, page_more, page_ends}
use Rattle.report.specs.Report.{cell_report, map_report}
use Rattle.report.proofs.Cells.{from_cell, no_cell}
use Rattle.report.proofs.write_map.Goals as goal

pub write_cell-requires : goal.write_cell-requires
write_cell-requires c = page_fits c.loop-x.invariant (cell_report _ _) (map_report _ _) (from_cell _ _ c.loop-x-test.true)

pub loop-x-preserved : goal.loop-x-preserved
loop-x-preserved c = page_more c.loop-x.invariant (from_cell _ _ c.loop-x-test.true) c.write_cell.ensures

pub returns : goal.returns
returns c = page_ends c.loop-x.invariant (no_cell _ _ c.loop-x-test.false)
