-- `text::read_sources` meets its contract. The loop's invariant: the input has the sources of the lines that are passed up to `next`.
-- The measure is what is left of the text. Assumes nothing.
use Rattle.std.proofs.Common.{rules, arith}
use Rattle.text.proofs.Listing.{listing_none, listing_more, listing_fails, source_ends}
use Rattle.text.proofs.read_sources.Goals as goal

pub loop-next-init : goal.loop-next-init
loop-next-init c = listing_none c.requires

pub returns-in_default : goal.returns-in_default
returns-in_default c = listing_fails c.loop-next.invariant (omega arith) c.in_default.ensures.1

pub loop-next-smaller : goal.loop-next-smaller
loop-next-smaller c = omega (arith, source_ends c.in-Ok.ensures)

pub loop-next-preserved : goal.loop-next-preserved
loop-next-preserved c = search (rules, listing_more)
