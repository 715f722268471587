-- `map::add_leftward` meets its contract. The loop's invariant: the hits from `from` to before `at` are added, from each of them
-- the walk went left, and `at` is the next one if it lies in the run. The measure is what is left of the map. Assumes nothing.
use native.Mathlib.Omega.{arith}
use mathlib.Core.Path.{refl}
use Prim.Native.Nat.{◌<◌}
use lib.ListN.{get_or, length-set}
use Rattle.std.proofs.Common.{rules}
use Rattle.scope.specs.Run.{ceiling, UpTo}
use Rattle.map.proofs.Walked.{Leftward, walking, rises, left_on, left_turns, left_ends}
use Rattle.map.proofs.add_leftward.Goals as goal
use Rattle.map.proofs.add_leftward.Goals.{At-loop-cell}

-- no cell is above the ceiling at first
small : (c : At-loop-cell) → UpTo ceiling c.args.map.now
small c i = let t : get_or c.args.map.now i 0 < 256 = search rules in omega arith

-- where the walk stands, at the test
here : (c : At-loop-cell) → Leftward c.requires.run c.requires.source c.args.walk c.args.weight c.args.from c.loop-cell.at c.args.map.now c.loop-cell.map
here c = c.loop-cell.invariant.2 _ _ c.requires.is (small c)

pub returns-then-at-walk : goal.returns-then-at-walk
returns-then-at-walk c run source crosses =
    let i = c.loop-cell.invariant in
    left_turns crosses _ (i.2 run source crosses (small (goal.at.returns-then-at-walk c).At-loop-cell)) (omega (arith, i.0, c.loop-cell-test.true)) c.next.ensures.1 (small (goal.at.returns-then-at-walk c).At-loop-cell) i.0 c.plus.ensures c.if-at-walk.true

pub next-at-requires : goal.next-at-requires
next-at-requires c =
    let e = c.loop-cell.invariant.0 in
    walking c.requires.is _ (here (goal.at.next-at-requires c).At-loop-cell) (omega (arith, c.loop-cell-test.true))

pub loop-cell-smaller : goal.loop-cell-smaller
loop-cell-smaller c =
    let i = c.loop-cell.invariant in
    let inside = c.loop-cell-test.true in
    let on = rises c.requires.is _ (here (goal.at.loop-cell-smaller c).At-loop-cell) (omega (arith, i.0)) c.next-at.ensures.1 in
    omega (arith, i.0, i.1)

pub loop-cell-preserved : goal.loop-cell-preserved
loop-cell-preserved c =
    let i = c.loop-cell.invariant in
    (refl, simp length-set i.1, λ run source crosses low. left_on crosses _ (i.2 run source crosses low) (omega (arith, i.0, c.loop-cell-test.true)) c.next-at.ensures.1 low i.0 c.plus.ensures c.if-at-walk.false)

pub returns : goal.returns
returns c run source crosses =
    let i = c.loop-cell.invariant in
    left_ends crosses _ (i.2 run source crosses (small (goal.at.returns c).At-loop-cell)) (omega (arith, i.0, c.loop-cell-test.false))
