-- `saved::load` meets its contract. The invariant of its loop: the map is filled with what the first k blocks of cells hold. Assumes nothing.
use Rattle.saved.proofs.Cells.{CellsRead}
use Rattle.saved.proofs.load.Given as goal

abbrev pub invariant-loop-k : goal.invariant-loop-k
invariant-loop-k l = CellsRead l.file l.initial.map l.map l.k
