-- What the list program hands on, as far as the contract of a read goes: by what the last read answered, a number of bytes, 0 at the end of
-- the input. And what it reads and writes, of an input whose bytes are known and an output whose contents are; of any other that says nothing.
use Rattle.std.specs.Prelude.{ℕ, ◌≤◌, ◌≡◌, List, length, Option}
use Rattle.std.specs.Io.KnownBytes.{Consumes, IsAtEnd, Appends}
use Rattle.report.specs.Promise.{PrintedOf}
use Rattle.list.specs.declared.Reading.{Reading}

-- The text has as many bytes as were read; these end with the input, or are more than "at most 4,096 bytes".
pub record Whole (reading : Reading) (text : List ℕ) : Type 0 where
  pub all : length text ≡ reading.count
  pub ended : reading.count ≤ 4096 → reading.last ≡ 0

-- The same by the bytes: the text is what was read; it ends with the input, or is longer than "at most 4,096 bytes".
pub record WholeText (before after : Option (List ℕ)) (text : List ℕ) : Type 0 where
  pub all : Consumes before after text
  pub ended : length text ≤ 4096 → IsAtEnd after

-- A whole text was read from the input, and what is printed of it was written to the output, and nothing else.
pub record Listed (before after contents contents' : Option (List ℕ)) : Type 0 where
  pub text : List ℕ
  pub bytes : List ℕ
  pub whole : WholeText before after text
  pub printed : PrintedOf text bytes
  pub written : Appends contents contents' bytes
