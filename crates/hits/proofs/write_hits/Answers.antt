-- `hits::write_hits` meets its contract.
-- The outer loop's invariant: at the head of a line the hits written and those from `cell` on are all from the start on
-- (Head); the inner loop's: the same within the line (Inside). Each is told of every run, source, start and line for which it held
-- where the loop began, since the code does not hold them any more. Until the room is full, there is no `next`.
-- The measure of both: what is left of the run from `cell` on. Assumes nothing.
use Rattle.std.proofs.Common.{◌/◌, ◌%◌, ◌<◌, refl, ◌∙◌, length, arith}
use native.Mathlib.Nat.{mod-lt}
use Rattle.std.proofs.lemmas.Grind.{common_steps}
use mir.Syntax.{w64}
use mir.Val.{to_z, of_z}
use mir.Facts.{to_z-of_z}
use Rattle.scope.specs.Run.{offset_of}
use Rattle.scope.proofs.Limits.{cells_few}
use Rattle.walk.proofs.Walks.{fits_at}
use Rattle.hits.proofs.Kept.{kept_start, kept_done}
use Rattle.hits.proofs.Lines.{Fixed, Head, Inside, walking, edge_fits, enter, within, beyond, cell_in, write, leave, ran_out, filled, gets_on}
use Rattle.hits.proofs.write_hits.Goals as goal
use Rattle.hits.proofs.write_hits.Goals.{After-line_hit_of-at, At-lines, At-loop-past, Else-count-room, Start}

-- ---- what is known at the loops
fixed : (c : After-line_hit_of-at) → let a = c.args in Fixed a.asked.run a.asked.source c.cells-all.result a.asked.source.period (to_z w64 (of_z w64 c.offset_at-end.result)) c.plan-walk.result
fixed c =
    let is = c.offset_at-end.ensures in
    let w = c.args.asked.valid.0.wide in
    record {
      valid = c.args.asked.valid.0;
      source_valid = c.args.asked.valid.1;
      all_is = c.cells-all.ensures;
      period_is = refl;
      end_is = to_z-of_z (fits_at c.args.asked.run.window (c.args.asked.run.window / 2) is (omega arith) (omega arith)) ∙ is;
      leads = c.plan-walk.ensures;
    }

begun : (c : After-line_hit_of-at) → let a = c.args in Head a.asked.run a.asked.source a.start.0 a.room.now a.room.now 0 c.in-Some.first.0 (to_z w64 (of_z w64 c.offset_at-offset.result)) c.line_hit_of-at.result
unfolding offset_of
begun c =
    let first = c.in-Some.ensures in
    let e = c.offset_at-offset.ensures in
    let w = c.args.asked.valid.0.wide in
    let some = c.args.asked.valid.0.narrow in
    let m = mod-lt c.in-Some.first.0 {m = c.args.asked.run.window} (omega arith) in
    record {
      kept = kept_start first.1;
      running = λ h. record {
        stands = c.line_hit_of-at.ensures.stands (first.1.hit h);
        line = c.line_hit_of-at.ensures.line;
        hit = first.1.hit h;
        offset_is = to_z-of_z (fits_at (c.in-Some.first.0 % c.args.asked.run.window) (c.args.asked.run.window / 2) e (omega arith) (omega arith)) ∙ e;
      };
    }

head : (c : At-lines) → let a = c.args in Head a.asked.run a.asked.source a.start.0 a.room.now c.lines.room c.lines.count c.lines.cell (to_z w64 c.lines.offset-bits) c.lines.at
head c = let a = c.args in c.lines.invariant.1 a.asked.run a.asked.source a.start.0 (fixed (goal.at.At-lines c).After-line_hit_of-at) (begun (goal.at.At-lines c).After-line_hit_of-at)

inside : (c : At-loop-past) → let a = c.args in Inside a.asked.run a.asked.source a.start.0 a.room.now c.loop-past.room c.loop-past.count c.loop-past.cell (to_z w64 c.loop-past.past-bits) c.lines.at
inside c =
    let a = c.args in
    c.loop-past.invariant.1 a.asked.run a.asked.source a.start.0 a.room.now c.lines.at (fixed (goal.at.At-loop-past c).After-line_hit_of-at) (enter (fixed (goal.at.At-loop-past c).After-line_hit_of-at) c.lines-test.true (head (goal.at.At-loop-past c).At-lines))

-- there is room at the count
free : (c : Else-count-room) → c.loop-past.count < length c.loop-past.room
free c = let k = (inside (goal.at.Else-count-room c).At-loop-past).kept.count in omega (arith, c.if-count-room.false)

pub returns-in_default : goal.returns-in_default
returns-in_default c = kept_done (omega arith) (kept_start c.in_default.ensures)

pub next-to-requires : goal.next-to-requires
next-to-requires c = walking (fixed (goal.at.next-to-requires c).After-line_hit_of-at) c.lines-test.true (head (goal.at.next-to-requires c).At-lines)

pub overflow_sub-past : goal.overflow_sub-past
overflow_sub-past c = edge_fits (fixed (goal.at.overflow_sub-past c).After-line_hit_of-at) c.lines-test.true (head (goal.at.overflow_sub-past c).At-lines)

pub offset_bounds-room-count : goal.offset_bounds-room-count
offset_bounds-room-count c = let below = free (goal.at.offset_bounds-room-count c).Else-count-room in grind (arith, common_steps)

pub bounds-room-count : goal.bounds-room-count
bounds-room-count c = free (goal.at.bounds-room-count c).Else-count-room

pub overflow_add-count : goal.overflow_add-count
overflow_add-count c = let below = free (goal.at.overflow_add-count c).Else-count-room in grind (arith, common_steps)

pub overflow_add-cell : goal.overflow_add-cell
overflow_add-cell c =
    let f = fixed (goal.at.overflow_add-cell c).After-line_hit_of-at in
    let i = inside (goal.at.overflow_add-cell c).At-loop-past in
    let low = cell_in f i (within f i c.loop-past-test.true) in
    record { fits = omega (arith, cells_few f.valid, f.source_valid.fits) }

pub loop-past-smaller : goal.loop-past-smaller
loop-past-smaller c =
    let f = fixed (goal.at.loop-past-smaller c).After-line_hit_of-at in
    let i = inside (goal.at.loop-past-smaller c).At-loop-past in
    let low = cell_in f i (within f i c.loop-past-test.true) in
    omega (arith, f.all_is, f.source_valid.ticks)

pub loop-past-preserved : goal.loop-past-preserved
loop-past-preserved c = (
  c.loop-past.invariant.0,
  λ run source start before at f h.
      let i = c.loop-past.invariant.1 run source start before at f h in
      write f i (within f i c.loop-past-test.true) (free (goal.at.loop-past-preserved c).Else-count-room),
)

pub lines-smaller : goal.lines-smaller
lines-smaller c =
    let f = fixed (goal.at.lines-smaller c).After-line_hit_of-at in
    let a = c.args in
    let r = (head (goal.at.lines-smaller c).At-lines).running (omega (arith, c.lines-test.true, f.all_is)) in
    let on = gets_on f.valid r (c.next-to.ensures.1 a.asked.run a.asked.source f.valid f.source_valid f.leads r.stands) in
    omega (arith, c.lines-test.true)

pub lines-preserved : goal.lines-preserved
lines-preserved c = (
  c.loop-past.invariant.0 ∙ c.lines.invariant.0,
  λ run source start f b.
      let i = c.loop-past.invariant.1 run source start _ c.lines.at f (enter f c.lines-test.true (c.lines.invariant.1 run source start f b)) in
      leave f i (beyond f i c.loop-past-test.false) (c.next-to.ensures.1 run source f.valid f.source_valid f.leads i.stands),
)

pub returns-after-lines : goal.returns-after-lines
returns-after-lines c =
    let f = fixed (goal.at.returns-after-lines c).After-line_hit_of-at in
    rw c.lines.invariant.0 (ran_out f (head (goal.at.returns-after-lines c).At-lines) c.lines-test.false)

pub returns-then-count-room : goal.returns-then-count-room
returns-then-count-room c =
    let f = fixed (goal.at.returns-then-count-room c).After-line_hit_of-at in
    let i = inside (goal.at.returns-then-count-room c).At-loop-past in
    filled f i (within f i c.loop-past-test.true) c.if-count-room.true
