-- `search::approach` meets its contract: a point nearer than m stays, and else v is added as often as it takes.
-- Assumes nothing.
use Rattle.std.proofs.Common.{◌≡◌, ◌≤◌, ◌+◌, ◌*◌, arith, nat_abs}
use Rattle.std.proofs.lemmas.Grind.{common_steps}
use Rattle.search.proofs.Descent.{Turned, near_same, near_right, near_left, right_turns, left_turns, whole_few}
use Rattle.search.proofs.approach.Goals as goal
use Rattle.search.proofs.approach.Goals.{After-size-m, After-size-n, After-turns_past-turns, After-turns_past-turns-2, Else-at-m}

-- the sizes are those of the two offsets
by : (c : After-size-m) → c.size-m.result ≡ nat_abs c.args.turn.last.offset
by c = grind (arith, common_steps)

from : (c : After-size-n) → c.size-n.result ≡ nat_abs c.args.turn.before.offset
from c = grind (arith, common_steps)

-- the point is not nearer than the last offset
far : (c : Else-at-m) → let s = c.args in nat_abs s.turn.last.offset ≤ s.at.distance
far c = rw (by (goal.at.Else-at-m c).After-size-m) at c.if-at-m.false

-- how far the last vector is turned, to the left and to the right
turns_left : (c : After-turns_past-turns) → let s = c.args in Turned s.turn.before s.turn.last c.turns_past-turns.result × (c.turns_past-turns.result * nat_abs s.turn.last.offset ≤ s.at.distance)
turns_left c =
    left_turns c.requires (far (goal.at.After-turns_past-turns c).Else-at-m) (rw (c.max.ensures, by (goal.at.After-turns_past-turns c).After-size-m) at c.turns_past-turns.ensures)

turns_right : (c : After-turns_past-turns-2) → let s = c.args in Turned s.turn.before s.turn.last c.turns_past-turns-2.result × (nat_abs s.turn.before.offset ≤ s.at.distance + c.turns_past-turns-2.result * nat_abs s.turn.last.offset)
turns_right c =
    right_turns c.requires (far (goal.at.After-turns_past-turns-2 c).Else-at-m) (rw (by (goal.at.After-turns_past-turns-2 c).After-size-m, from (goal.at.After-turns_past-turns-2 c).After-size-n) at c.turns_past-turns-2.ensures)

pub returns-then-at-m : goal.returns-then-at-m
returns-then-at-m c = λ p q st. near_same c.requires (rw (by (goal.at.returns-then-at-m c).After-size-m) at c.if-at-m.true)

pub overflow_mul-result-then-turn-lt0 : goal.overflow_mul-result-then-turn-lt0
overflow_mul-result-then-turn-lt0 c = let h = turns_left (goal.at.overflow_mul-result-then-turn-lt0 c).After-turns_past-turns in record { fits = omega arith }

pub overflow_add-result : goal.overflow_add-result
overflow_add-result c = let h = turns_left (goal.at.overflow_add-result c).After-turns_past-turns in record { fits = omega arith }

pub turns_past-turns-requires-2 : goal.turns_past-turns-requires-2
turns_past-turns-requires-2 c =
    let h = c.requires in
    let f = whole_few h.division in
    rw (by (goal.at.turns_past-turns-requires-2 c).After-size-m, from (goal.at.turns_past-turns-requires-2 c).After-size-n) (h.some, omega arith)

pub overflow_mul-result-3 : goal.overflow_mul-result-3
overflow_mul-result-3 c = let h = turns_right (goal.at.overflow_mul-result-3 c).After-turns_past-turns-2 in record { fits = omega arith }

pub overflow_add-result-3 : goal.overflow_add-result-3
overflow_add-result-3 c = let h = turns_right (goal.at.overflow_add-result-3 c).After-turns_past-turns-2 in record { fits = omega arith }

pub overflow_add-result-4 : goal.overflow_add-result-4
overflow_add-result-4 c = let h = turns_right (goal.at.overflow_add-result-4 c).After-turns_past-turns-2 in record { fits = omega arith }

pub returns-then-turn-lt0 : goal.returns-then-turn-lt0
returns-then-turn-lt0 c =
    let h = c.requires in
    let m = by (goal.at.returns-then-turn-lt0 c).After-size-m in
    λ p q st. rw m (near_left h (grind (arith, common_steps)) (far (goal.at.returns-then-turn-lt0 c).Else-at-m) (rw (c.max.ensures, m) at c.turns_past-turns.ensures) st)

pub returns : goal.returns
returns c =
    let h = c.requires in
    let m = by (goal.at.returns c).After-size-m in
    let n = from (goal.at.returns c).After-size-n in
    λ p q st. rw (m, n) (near_right h (grind (arith, common_steps)) (far (goal.at.returns c).Else-at-m) (rw (m, n) at c.turns_past-turns-2.ensures) st)
