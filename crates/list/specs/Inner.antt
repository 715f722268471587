-- What the steps of the list program's reading are held to.
use Rattle.std.specs.Prelude.{ℕ, ◌≤◌, ◌<◌, ◌≡◌, List, length, take, Option}
use Rattle.std.specs.Io.KnownBytes.{Consumes, IsAtEnd}
use Rattle.list.specs.declared.Reading.{Reading}

-- The reading stopped because the room was full, or because the last read brought nothing.
pub record Stopped (room : ℕ) (reading : Reading) : Type 0 where
  pub within : reading.count ≤ room
  pub why : reading.count < room → reading.last ≡ 0

-- So many bytes of a room were read into its front, the next that the input had; the reading stopped because the room was full, or because
-- the input had no more.
pub record ReadIn (before after : Option (List ℕ)) (count : ℕ) (room : List ℕ) : Type 0 where
  pub within : count ≤ length room
  pub read : Consumes before after (take count room)
  pub stopped : count < length room → IsAtEnd after
