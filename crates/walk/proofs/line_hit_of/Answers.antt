-- `walk::line_hit_of` meets its contract. Assumes nothing.
use Rattle.std.proofs.Common.{arith}
use Rattle.std.proofs.lemmas.Grind.{common_steps}
use Rattle.walk.proofs.Plans.{leads_in, begins}
use Rattle.walk.proofs.line_hit_of.Goals as goal

pub returns : goal.returns
returns c =
    let in' = leads_in c.args.asked.valid.0 c.args.asked.valid.1 c.args.cell.0 in
    let wide = c.args.asked.valid.0.wide in
    begins c.args.asked.valid.0 c.args.asked.valid.1 c.args.cell.0 (grind (arith, common_steps))
