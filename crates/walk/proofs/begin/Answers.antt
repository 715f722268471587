-- `walk::begin` meets its contract: the point that was sought from the first line on, as a hit. Assumes nothing.
use Rattle.std.proofs.Common.{refl, arith}
use Rattle.std.proofs.lemmas.Grind.{common_steps}
use Rattle.search.specs.Inner.{PointOf}
use Rattle.walk.proofs.Plans.{begun_at, begun_none}
use Rattle.walk.proofs.begin.Goals as goal
use Rattle.walk.proofs.begin.Goals.{After-distance}

-- the point on the first line
start : (c : After-distance) → let a = c.args.asked in PointOf a.run a.source (record { distance = c.distance.result; line = a.run.first })
start c = record { is = c.distance.ensures; begun = omega arith; short = omega (arith, c.args.asked.valid.0.ordered) }

pub returns-in-Some : goal.returns-in-Some
returns-in-Some c =
    let wide = c.args.asked.valid.0.wide in
    let near = c.in-Some.ensures.first.inside in
    begun_at c.args.asked.valid.0 c.args.asked.valid.1 (start (goal.at.returns-in-Some c).After-distance) refl c.in-Some.ensures (grind (arith, common_steps))

pub returns-in-None : goal.returns-in-None
returns-in-None c = rw c.cells.ensures (begun_none c.args.asked.valid.0 c.args.asked.valid.1 (start (goal.at.returns-in-None c).After-distance) refl refl c.in-None.ensures)
