-- `map::add_line` meets its contract. The loop's invariant: the cells left of d are done, and d is a hit or lies past the
-- line. The measure is what is left of the line. Assumes nothing.
use native.Mathlib.Omega.{arith}
use Rattle.map.proofs.Raised.{ends}
use Rattle.map.proofs.Rows.{line_starts, line_next}
use Rattle.map.proofs.add_line.Goals as goal

pub loop-d-init : goal.loop-d-init
loop-d-init c = line_starts _ c.requires.0 (λ i. omega (arith, c.type_inv.line i))

pub loop-d-preserved : goal.loop-d-preserved
loop-d-preserved c = line_next c.loop-d.invariant c.loop-d-test.true c.plus.ensures

pub returns : goal.returns
returns c = let l = c.loop-d.invariant.done.as_long in ends c.loop-d.invariant.done (omega arith)
