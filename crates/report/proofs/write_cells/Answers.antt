-- `report::write_cells` meets its contract: the cells' lines and the line after them are the whole. Assumes nothing.
use Rattle.std.proofs.Common.{◌≡◌, [], ◌∷◌, ◌++◌, refl, ap}
use Rattle.decimal.proofs.Pages.{OnPage, page_starts, page_fits_last, page_more, page_last, writes_same}
use Rattle.words.specs.Line.{line}
use Rattle.report.specs.Report.{end_word, map_report, end_report}
use Rattle.report.proofs.write_cells.Goals as goal
use Rattle.report.proofs.write_cells.Goals.{After-write_map, After-count_above}

-- the cells are written, and the line that counts them is left
mapped : (c : After-write_map)
    → let map = c.args.map.now in
    OnPage c.args.page.now (map_report 0 map ++ end_report map) (end_report map) c.write_map.new.page
mapped c = page_more (page_starts c.args.page.now (map_report 0 _ ++ end_report _) c.requires) refl c.write_map.ensures

counted : (c : After-count_above) → line end_word (c.count_above.result ∷ []) ≡ end_report c.args.map.now
unfolding end_report
counted c = ap (λ n. line end_word (n ∷ [])) c.count_above.ensures

pub write_line-requires : goal.write_line-requires
write_line-requires c =
    let at = goal.at.write_line-requires c in
    page_fits_last (mapped at.After-write_map) (line end_word (c.count_above.result ∷ [])) (counted at.After-count_above)

pub returns : goal.returns
returns c =
    let at = goal.at.returns c in
    page_last (mapped at.After-write_map) (writes_same (counted at.After-count_above) c.write_line.ensures)
