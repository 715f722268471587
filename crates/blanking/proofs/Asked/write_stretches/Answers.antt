-- `blanking::Asked::write_stretches` meets its contract. The loop's invariant: the room has the stretches that were given, and from there on
-- it is as it was. Assumes nothing.
use borrow.Author.Rules.{rules}
use native.Mathlib.Omega.{arith}
use Prim.Native.Nat.{◌+◌, ◌*◌, ◌^◌, ◌≤◌, ◌<◌}
use mathlib.Core.Path.{◌≡◌, ◌∙◌, ap}
use lib.ListN.{length, length-set}
use Rattle.std.specs.Iterator.Adapters.{enumerate_source, enumerate_count}
use Rattle.blanking.proofs.Writing.{put_none, put_fits, put_long, put_on, put_all}
use Rattle.blanking.proofs.Asked.write_stretches.Goals as goal
use Rattle.blanking.proofs.Asked.write_stretches.Goals.{Start, In-Some}

-- the room takes fewer than 2 ^ 63 bytes
room_small : (c : Start) → length c.args.room.now * 4 < 2 ^ 63
room_small c = search rules

-- where a stretch is given, its two numbers fit
room_left : (c : In-Some) → (2 * c.in-Some.k + 2 ≤ length c.loop-k.room) × (length c.loop-k.room * 4 < 2 ^ 63)
room_left c =
    let given = c.in-Some.ensures.steps in
    let fits = put_fits c.loop-k.invariant given.0.1.0 in
    (omega (arith, fits, given.1), omega (arith, room_small (goal.at.In-Some c).Start, put_long c.loop-k.invariant))

pub loop-k-init : goal.loop-k-init
loop-k-init c =
    let e = c.enumerate-k-items.ensures in
    let same = c.into_iter-k-iterator.ensures.into_iter_gives in
    let source = ap enumerate_source same ∙ e.source in
    let none : 2 * enumerate_count c.into_iter-k-iterator.result ≡ 0 = omega (arith, ap enumerate_count same, e.count) in
    rw none (put_none (enumerate_source c.into_iter-k-iterator.result) (ap (λ s. s.asked) source ∙ c.stretches.ensures.asks) (ap (λ s. s.line) source ∙ c.stretches.ensures.begins) c.requires)

pub overflow_mul-room : goal.overflow_mul-room
overflow_mul-room c = record { fits = omega (arith, room_left (goal.at.overflow_mul-room c).In-Some) }

pub offset_bounds-room-k : goal.offset_bounds-room-k
offset_bounds-room-k c = record { fits = omega (arith, room_left (goal.at.offset_bounds-room-k c).In-Some) }

pub bounds-room-k : goal.bounds-room-k
bounds-room-k c = omega (arith, room_left (goal.at.bounds-room-k c).In-Some)

pub overflow_mul-room-in-loop-k : goal.overflow_mul-room-in-loop-k
overflow_mul-room-in-loop-k c = record { fits = omega (arith, room_left (goal.at.overflow_mul-room-in-loop-k c).In-Some) }

pub overflow_add-room : goal.overflow_add-room
overflow_add-room c = record { fits = omega (arith, room_left (goal.at.overflow_add-room c).In-Some) }

pub offset_bounds-room-k-in-loop-k : goal.offset_bounds-room-k-in-loop-k
offset_bounds-room-k-in-loop-k c = record { fits = omega (arith, room_left (goal.at.offset_bounds-room-k-in-loop-k c).In-Some) }

pub bounds-room-k-in-loop-k : goal.bounds-room-k-in-loop-k
bounds-room-k-in-loop-k c = simp length-set (omega (arith, room_left (goal.at.bounds-room-k-in-loop-k c).In-Some))

pub loop-k-preserved : goal.loop-k-preserved
loop-k-preserved c =
    let given = c.in-Some.ensures.steps in
    let more : 2 * enumerate_count c.next.new.self ≡ 2 * enumerate_count c.loop-k.k-iterator + 2 = omega (arith, given.2) in
    rw (given.1, more) (put_on c.loop-k.invariant (enumerate_source c.next.new.self) c.in-Some.stretch given.0.0 given.0.1.0 given.0.1.1)

pub returns : goal.returns
returns c = put_all c.loop-k.invariant c.in-None.ensures.steps.0.1
