-- `report::count_above` meets its contract: what the chain counts are the cells above 0. Assumes nothing.
use Rattle.std.proofs.Common.{◌≡◌, ◌∙◌, sym, not, eqb, count_by, rules}
use Rattle.report.proofs.Cells.{above_count}
use Rattle.report.proofs.count_above.Goals as goal

pub returns : goal.returns
returns c =
    let counted : c.count.result ≡ count_by (λ value. not (eqb value 0)) c.args.map.now = search rules in
    counted ∙ sym (above_count c.args.map.now)
