-- `saved::judge_cells` meets its contract. The invariant of its loop: the first k blocks of cells pass their tests. Assumes nothing.
use Rattle.saved.proofs.Judging.{CellsJudged}
use Rattle.saved.proofs.judge_cells.Given as goal

abbrev pub invariant-loop-k : goal.invariant-loop-k
invariant-loop-k l = CellsJudged l.size l.file l.k
