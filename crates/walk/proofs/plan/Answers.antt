-- `walk::plan` meets its contract: the pair, or the single vector, of the narrower window. Assumes nothing.
use Rattle.std.proofs.Common.{arith}
use Rattle.walk.proofs.Plans.{left_small, right_small, pair_leads, single_small, single_leads}
use Rattle.walk.proofs.plan.Goals as goal

pub walk_by-requires : goal.walk_by-requires
walk_by-requires c =
    let pair = rw c.min-width.ensures at c.in-Two.ensures in
    (left_small c.args.asked.valid.0 c.args.asked.valid.1 pair, right_small c.args.asked.valid.0 c.args.asked.valid.1 pair, omega (arith, c.min-width.ensures))

pub walk_by-requires-in-One : goal.walk_by-requires-in-One
walk_by-requires-in-One c =
    let single = rw c.min-width.ensures at c.in-One.ensures in
    let short = single_small c.args.asked.valid.0 c.args.asked.valid.1 single in
    (short, short, omega (arith, c.min-width.ensures))

pub returns-in-Two : goal.returns-in-Two
returns-in-Two c = pair_leads c.args.asked.valid.0 c.args.asked.valid.1 (rw c.min-width.ensures at c.in-Two.ensures) (rw c.min-width.ensures at c.walk_by.ensures)

pub returns-in-One : goal.returns-in-One
returns-in-One c = single_leads c.args.asked.valid.0 c.args.asked.valid.1 (rw c.min-width.ensures at c.in-One.ensures) (rw c.min-width.ensures at c.walk_by-in-One.ensures)
