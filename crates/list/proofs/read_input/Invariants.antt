-- `list::read_input` meets its contract. The loop's invariant: the front of the room has what was read, the next that the input had.
-- The measure is what is left of the room. Assumes nothing.
use Rattle.std.proofs.Common.{ℕ, List, Option, length, take, ◌-◌, ◌≤◌}
use Rattle.std.specs.Io.KnownBytes.{Consumes}
use Rattle.list.proofs.read_input.Given as goal

-- so many bytes of a room were read into its front
pub record Front (before after : Option (List ℕ)) (count : ℕ) (room : List ℕ) : Type 0 where
  pub within : count ≤ length room
  pub read : Consumes before after (take count room)

abbrev pub invariant-loop-count : goal.invariant-loop-count
invariant-loop-count g l = Front (g.R.Read.remaining l.initial.input) (g.R.Read.remaining l.input) l.count l.room

abbrev pub decreases-loop-count : goal.decreases-loop-count
decreases-loop-count g l = length l.initial.room - l.count
