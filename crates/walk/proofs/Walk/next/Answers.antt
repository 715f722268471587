-- `walk::Walk::next` meets its contract: each of its three ways is a case of proposition 2. Assumes nothing.
use Rattle.walk.proofs.Walks.{movable_left, movable_right, movable_both, lands_low, step_left, step_right, step_both}
use Rattle.walk.proofs.Walk.next.Goals as goal

pub moved-requires : goal.moved-requires
moved-requires c = movable_left c.requires

pub returns-then-at-self : goal.returns-then-at-self
returns-then-at-self c =
    let w = c.requires in
    (lands_low w (movable_left w) c.moved.ensures, λ run source v s l here. step_left v s l here c.if-at-self.true c.moved.ensures)

pub moved-requires-then-at-self-2 : goal.moved-requires-then-at-self-2
moved-requires-then-at-self-2 c = movable_right c.requires

pub returns-then-at-self-2 : goal.returns-then-at-self-2
returns-then-at-self-2 c =
    let w = c.requires in
    (lands_low w (movable_right w) c.moved-then-at-self-2.ensures, λ run source v s l here. step_right v s l here c.if-at-self.false c.if-at-self-2.true c.moved-then-at-self-2.ensures)

pub moved-requires-2 : goal.moved-requires-2
moved-requires-2 c = movable_both c.requires

pub returns : goal.returns
returns c =
    let w = c.requires in
    (lands_low w (movable_both w) c.moved-2.ensures, λ run source v s l here. step_both v s l here c.if-at-self.false c.if-at-self-2.false c.moved-2.ensures)
