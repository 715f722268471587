-- `search::seek` meets its contract: from a stage to the next, the point comes nearer and passes over nothing.
-- The measure is the size of the last offset, which falls from a vector to the next. Assumes nothing.
use Rattle.std.proofs.Common.{◌≡◌, arith, pos}
use Rattle.std.proofs.lemmas.Grind.{common_steps}
use Rattle.std.specs.Prelude.{Some, None}
use Rattle.vectors.proofs.Sequence.{onward, later, falls, some_size}
use Rattle.search.proofs.Descent.{seeking, sought_past, sought_here, sought_never, sought_on}
use Rattle.search.proofs.seek.Goals as goal
use Rattle.search.proofs.seek.Goals.{At-loop-at}
use Rattle.search.proofs.seek.Invariants.{GoesOn}

-- where the loop stands, the search goes on
on : (c : At-loop-at) → let s = c.args in let l = c.loop-at in GoesOn s.window s.end s.first s.start l.turn l.at
on c = c.loop-at.invariant

pub returns-then-at-window : goal.returns-then-at-window
returns-then-at-window c = λ p q st. (on (goal.at.returns-then-at-window c).At-loop-at).leads p q (Some c.loop-at.at) st (sought_here c.loop-at-test.true c.if-at-window.true)

pub returns-then-turn-eq0 : goal.returns-then-turn-eq0
returns-then-turn-eq0 c =
    let w = on (goal.at.returns-then-turn-eq0 c).At-loop-at in
    let e : c.loop-at.turn.last.offset ≡ pos 0 = grind (arith, common_steps) in
    λ p q st. w.leads p q None st (sought_never c.loop-at.at (w.same p q st) e w.seeks.below c.if-at-window.false)

pub loop-at-smaller : goal.loop-at-smaller
loop-at-smaller c =
    let some = some_size c.loop-at.turn.last.offset (grind (arith, common_steps)) in
    rw c.next-after.ensures (falls (later (on (goal.at.loop-at-smaller c).At-loop-at).seeks.division some).at)

pub loop-at-preserved : goal.loop-at-preserved
loop-at-preserved c =
    let w = on (goal.at.loop-at-preserved c).At-loop-at in
    let some = some_size c.loop-at.turn.last.offset (grind (arith, common_steps)) in
    let nearer = c.approach-at.ensures in
    rw c.next-after.ensures (record {
      seeks = seeking w.seeks some nearer;
      same = λ p q st. onward (w.same p q st) some;
      leads = λ p q r st s. w.leads p q r st (sought_on _ r (nearer p q (w.same p q st)) s);
    })

pub returns : goal.returns
returns c = λ p q st. (on (goal.at.returns c).At-loop-at).leads p q None st (sought_past c.loop-at-test.false)
