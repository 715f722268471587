-- `search::seek` meets its contract: from a stage to the next, the point comes nearer and passes over nothing.
-- The measure is the size of the last offset, which falls from a vector to the next. Assumes nothing.
use Rattle.std.proofs.Common.{ℕ, nat_abs}
use Rattle.std.specs.Prelude.{Option}
use Rattle.vectors.specs.declared.Turn.{Turn}
use Rattle.vectors.specs.Inner.{Successive}
use Rattle.search.specs.declared.Point.{Point}
use Rattle.search.specs.Inner.{Seeking, Sought}
use Rattle.search.proofs.seek.Given as goal

-- The search goes on at two later vectors of the same division, and what it comes to from there it comes to from the start.
pub record GoesOn (window end : ℕ) (first : Turn) (start : Point) (turn : Turn) (at : Point) : Type 0 where
  pub seeks : Seeking turn.before turn.last at window end
  pub same : (p q : ℕ) → Successive p q first.before first.last → Successive p q turn.before turn.last
  pub leads : (p q : ℕ) (r : Option Point) → Successive p q first.before first.last → Sought p q window end at r → Sought p q window end start r

abbrev pub invariant-loop-at : goal.invariant-loop-at
invariant-loop-at l = GoesOn l.window l.end l.initial.turn l.initial.at l.turn l.at

abbrev pub decreases-loop-at : goal.decreases-loop-at
decreases-loop-at l = nat_abs l.turn.last.offset
