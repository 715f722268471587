-- `map::add_hits` meets its contract. The loop's invariant: the hits before `at` are added, and `at` is the next one if it
-- lies in the run. The measure is what is left of the map. Assumes nothing.
use native.Mathlib.Omega.{arith}
use mathlib.Core.Path.{refl, ◌∙◌}
use Rattle.map.specs.Promise.{added}
use Rattle.map.specs.Inner.{Crosses}
use Rattle.map.proofs.Raised.{ends}
use Rattle.map.proofs.Walked.{Walked, crosses_at, walk_starts, walk_on, walk_rises}
use Rattle.map.proofs.add_hits.Goals as goal
use Rattle.map.proofs.add_hits.Goals.{After-begin-at, At-loop-cell}

-- no cell is above the ceiling at first, and the walk starts at the first hit
starts : (c : After-begin-at) → Walked c.args.run c.args.entry.source c.args.entry.weight c.args.map.now c.args.map.now c.begin-at.result
starts c = walk_starts _ (λ i. omega (arith, c.type_inv.map i)) c.begin-at.ensures

-- what the loop walks over
over : (c : At-loop-cell) → Crosses c.args.run c.args.entry.source c.plan-walk.result c.begin-at.result c.args.map.now
over c =
    let p = c.requires in
    record { valid = p.0; source_valid = p.1.source; wide = p.2; leads = c.plan-walk.ensures; stands = c.begin-at.ensures.stands; whole = p.3 }

-- where it stands, at the test
here : (c : At-loop-cell) → Walked c.args.run c.args.entry.source c.args.entry.weight c.args.map.now c.loop-cell.map c.loop-cell.at
here c = c.loop-cell.invariant.2 _ _ (over c) (starts (goal.at.At-loop-cell c).After-begin-at)

pub returns-then-map-cell : goal.returns-then-map-cell
unfolding added
returns-then-map-cell c = ends (starts (goal.at.returns-then-map-cell c).After-begin-at).done c.if-map-cell.true

pub add_leftward-at-requires : goal.add_leftward-at-requires
add_leftward-at-requires c = record { run = _; source = _; is = crosses_at (over (goal.at.add_leftward-at-requires c).At-loop-cell) (here (goal.at.add_leftward-at-requires c).At-loop-cell) }

pub loop-cell-smaller : goal.loop-cell-smaller
loop-cell-smaller c =
    let i = c.loop-cell.invariant in
    let inside = c.loop-cell-test.true in
    let on = walk_rises (c.add_leftward-at.ensures _ _ (crosses_at (over (goal.at.loop-cell-smaller c).At-loop-cell) (here (goal.at.loop-cell-smaller c).At-loop-cell))) (omega (arith, i.0)) in
    omega (arith, i.0, i.1)

pub loop-cell-preserved : goal.loop-cell-preserved
loop-cell-preserved c =
    let i = c.loop-cell.invariant in
    let added = c.add_leftward-at.ensures in
    (refl, (added _ _ (crosses_at (over (goal.at.loop-cell-preserved c).At-loop-cell) (here (goal.at.loop-cell-preserved c).At-loop-cell))).done.as_long ∙ i.1, λ run source b w. walk_on (i.2 run source b w) (added run source (crosses_at b (i.2 run source b w))))

pub returns : goal.returns
unfolding added
returns c =
    let i = c.loop-cell.invariant in
    ends (here (goal.at.returns c).At-loop-cell).done (omega (arith, i.0, i.1, c.loop-cell-test.false))
