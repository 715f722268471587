-- What is written on a page, and what reading a number from a text answers.
use Rattle.std.specs.Prelude.{ℕ, ◌+◌, ◌<◌, ◌≤◌, ◌≡◌, Bool, false, ◌&&◌, List, [], ◌∷◌, ◌++◌, Option, None, Some, leb, length, drop, get_or}
use Rattle.rooms.specs.Inner.{Written}
use Rattle.decimal.specs.declared.Page.{Page}
use Rattle.decimal.specs.Digits.{largest, digits}

-- These bytes fit behind what is written on a page.
abbrev pub Fits : Page → List ℕ → Type 0
Fits page bytes = page.at + length bytes ≤ length page.room.now

-- These bytes were written on a page, behind what was written before; it lies in the room where it lay.
pub record Writes (before : Page) (bytes : List ℕ) (after : Page) : Type 0 where
  pub same_room : after.room.ghost_name ≡ before.room.ghost_name
  pub written : Written before.room.now before.at bytes after.at after.room.now

-- Whether a byte is one of `0` to `9`.
abbrev pub is_digit : ℕ → Bool
is_digit b = leb 48 b && leb b 57

-- Whether a text begins with a digit; the empty text does not.
abbrev pub begins_with_digit : List ℕ → Bool
begins_with_digit [] = false
begins_with_digit (b ∷ rest) = is_digit b

-- d is the digit in the text at `at`.
pub record DigitStands (text : List ℕ) (at d : ℕ) : Type 0 where
  pub within : at < length text
  pub small : d < 10
  pub byte : get_or text at 0 ≡ 48 + d
  pub there : drop at text ≡ (48 + d) ∷ drop (at + 1) text

-- The number v, "up to 4,294,967,295", stands in the text at `at`: all the digits there, up to `next`, are those of v.
pub record NumberStands (text : List ℕ) (at v next : ℕ) : Type 0 where
  pub small : v ≤ largest
  pub spelled : drop at text ≡ digits v ++ drop next text
  pub ended : begins_with_digit (drop next text) ≡ false
  pub ends : next ≡ at + length (digits v)

-- Reading answers with the number that stands there and where it ends, or with None where none stands.
abbrev pub Reading : List ℕ → ℕ → Option (ℕ × ℕ) → Type 0
Reading text at (Some (v, next)) = NumberStands text at v next
Reading text at None = (v next : ℕ) → NumberStands text at v next → ⊥
