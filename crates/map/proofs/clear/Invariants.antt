-- `map::clear` meets its contract. The loop's invariant: the map is written with `at` zeros. Assumes nothing.
use Rattle.rooms.specs.Lists.{zeros}
use Rattle.rooms.specs.Inner.{Written}
use Rattle.map.proofs.clear.Given as goal

abbrev pub invariant-loop-at : goal.invariant-loop-at
invariant-loop-at l = Written l.initial.map 0 (zeros l.at) l.at l.map
