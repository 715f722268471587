-- `words::read_line` meets its contract. The loop's invariant: the word and k numbers are passed up to `next`, and the room has the numbers
-- in front of what it had before. Assumes nothing.
use Rattle.words.proofs.Lines.{Passing}
use Rattle.words.proofs.read_line.Given as goal

abbrev pub invariant-loop-k : goal.invariant-loop-k
invariant-loop-k l = Passing l.text l.at l.word l.initial.room l.room l.k l.next
