-- `rooms::copy` meets its contract. The invariant of its loop: the room is written with the first k bytes. Assumes nothing.
use lib.ListN.{take}
use Rattle.rooms.specs.Inner.{Written}
use Rattle.rooms.proofs.copy.Given as goal

abbrev pub invariant-loop-k : goal.invariant-loop-k
invariant-loop-k l = Written l.initial.room 0 (take l.k l.bytes) l.k l.room
