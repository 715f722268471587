-- `decimal::read_number` meets its contract. The loop's invariant: the digits passed are those of `value`, which is not above the largest.
-- Assumes nothing.
use Rattle.decimal.proofs.Readings.{Passed}
use Rattle.decimal.proofs.read_number.Given as goal

abbrev pub invariant-loop-next : goal.invariant-loop-next
invariant-loop-next l = Passed l.text l.at l.value l.next
