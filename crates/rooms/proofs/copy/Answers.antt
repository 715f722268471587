-- `rooms::copy` meets its contract. The invariant of its loop: the room is written with the first k bytes. Assumes nothing.
use native.Mathlib.Omega.{arith}
use native.Mathlib.Numerals.{add-one}
use mathlib.Core.Path.{◌≡◌, ◌∙◌, ap}
use lib.ListN.{length, take}
use lib.Seq.{take-suc, take-length}
use Rattle.rooms.proofs.Written.{written_none, written_more, written_length, written_all}
use Rattle.rooms.proofs.copy.Goals as goal

pub loop-k-init : goal.loop-k-init
loop-k-init c = written_none _ 0 (omega arith)

pub bounds-room-k : goal.bounds-room-k
bounds-room-k c = let l = written_length c.loop-k.invariant in omega arith

pub loop-k-preserved : goal.loop-k-preserved
loop-k-preserved c =
    let bytes = c.args.bytes.now in
    let k = c.loop-k.k in
    let more = ap (λ n. take n bytes) (add-one k) ∙ take-suc bytes k 0 (omega arith) in
    rw more (written_more c.loop-k.invariant _ (omega arith))

pub shape_of-room : goal.shape_of-room
shape_of-room c = written_length c.loop-k.invariant

pub returns : goal.returns
returns c =
    let inv = c.loop-k.invariant in
    let all : c.loop-k.k ≡ length c.args.bytes.now = omega arith in
    written_all inv (omega arith) ∙ ap (λ n. take n c.args.bytes.now) all ∙ take-length _
