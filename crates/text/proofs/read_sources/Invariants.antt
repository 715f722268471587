-- `text::read_sources` meets its contract. The loop's invariant: the input has the sources of the lines that are passed up to `next`.
-- The measure is what is left of the text. Assumes nothing.
use Rattle.std.proofs.Common.{length, ◌-◌}
use Rattle.text.proofs.Listing.{Listing}
use Rattle.text.proofs.read_sources.Given as goal

abbrev pub invariant-loop-next : goal.invariant-loop-next
invariant-loop-next l = Listing l.text l.at l.initial.input.run l.input l.next

abbrev pub decreases-loop-next : goal.decreases-loop-next
decreases-loop-next l = length l.text - l.next
