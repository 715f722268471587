-- `report::write_map_of` meets its contract: what the plain call makes is the map. Assumes nothing.
use Rattle.std.proofs.Common.{◌≡◌, Ok, ◌++◌, take, ap, rules}
use Rattle.sources.specs.Lists.{OneLength}
use Rattle.text.specs.Promise.{sources_in}
use Rattle.decimal.proofs.Pages.{writes_same, fits_others}
use Rattle.report.specs.Report.{map_report, end_report, cells_report}
use Rattle.report.proofs.Mapped.{map_made, map_is}
use Rattle.report.proofs.write_map_of.Goals as goal
use Rattle.report.proofs.write_map_of.Goals.{After-make_map}

-- the lists that are lent to the call
one_length : (c : After-make_map)
    → let i = c.args.input.now in
    OneLength (take i.count i.periods) (take i.count i.weights) (take i.count i.phases)
one_length c = search rules

-- the lines that are written
printed : (c : After-make_map)
    → let map = c.make_map.new.map in
    map_report 0 map ++ end_report map ≡ cells_report c.args.input.now.run (sources_in c.args.input.now)
unfolding cells_report
printed c =
    ap (λ m. map_report 0 m ++ end_report m)
    (map_is c.requires.valid.valid (one_length c) (record { is = c.requires.valid.sound }) c.requires.whole c.make_map.ensures)

pub unwrap-requires : goal.unwrap-requires
unwrap-requires c =
    let at = goal.at.unwrap-requires c in
    let made : c.make_map.result ≡ Ok tt = map_made c.requires.valid.valid (one_length at.After-make_map) (record { is = c.requires.valid.sound }) c.requires.whole c.make_map.ensures in
    rw made

pub write_cells-requires : goal.write_cells-requires
write_cells-requires c = fits_others c.args.page.now (printed (goal.at.write_cells-requires c).After-make_map) c.requires.fits

pub returns : goal.returns
returns c = writes_same (printed (goal.at.returns c).After-make_map) c.write_cells.ensures
