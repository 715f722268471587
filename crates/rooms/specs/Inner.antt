-- What the inner steps that write leave in a lent room.
use Rattle.std.specs.Prelude.{ℕ, ◌+◌, ◌≤◌, ◌≡◌, List, ◌++◌, length, take, drop}

-- The room after `bytes` were written into it from `at` up to `next`: around them it is as it was ("room past what is written is untouched").
pub record Written (room : List ℕ) (at : ℕ) (bytes : List ℕ) (next : ℕ) (after : List ℕ) : Type 0 where
  pub ends : next ≡ at + length bytes
  pub within : next ≤ length room
  pub kept : after ≡ take at room ++ bytes ++ drop next room
