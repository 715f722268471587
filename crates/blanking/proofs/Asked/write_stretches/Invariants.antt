-- `blanking::Asked::write_stretches` meets its contract. The loop's invariant: the room has the stretches that were given, and from there on
-- it is as it was. Assumes nothing.
use Prim.Native.Nat.{◌*◌}
use Rattle.std.specs.Iterator.Adapters.{enumerate_source, enumerate_count}
use Rattle.blanking.proofs.Writing.{Put}
use Rattle.blanking.proofs.Asked.write_stretches.Given as goal

abbrev pub invariant-loop-k : goal.invariant-loop-k
invariant-loop-k l = Put l.self (enumerate_source l.k-iterator) l.initial.room l.room (2 * enumerate_count l.k-iterator)
