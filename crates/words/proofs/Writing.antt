-- A line that is written word by number, and how long it is. Assumes nothing.
use Prim.Native.Nat.{ℕ, suc, ◌+◌, ◌*◌, ◌≤◌, ◌<◌}
use native.Mathlib.Omega.{arith}
use native.Mathlib.Numerals.{add-one}
use mathlib.Core.Path.{◌≡◌, refl}
use mathlib.Core.List.{List, [], ◌∷◌, ◌++◌}
use lib.ListN.{length, drop, get_or, length-append, drop_of_length-le}
use lib.Seq.{drop-cons}
use Rattle.rooms.specs.Lists.{UpTo}
use Rattle.decimal.specs.Digits.{largest, digits}
use Rattle.decimal.proofs.Laws.{length_32}
use Rattle.words.specs.Line.{fields, line}

-- ---- a number after the other

-- the numbers of a line from number k on: a space, the number there, and those after it
pub from_number : (numbers : List ℕ) (k : ℕ) → k < length numbers → fields (drop k numbers) ≡ (32 ∷ []) ++ (digits (get_or numbers k 0) ++ fields (drop (k + 1) numbers))
unfolding fields
from_number numbers k h = rw (drop-cons numbers k 0 h, add-one)

pub newline_left : (numbers : List ℕ) (k : ℕ) → length numbers ≤ k → fields (drop k numbers) ≡ 10 ∷ []
unfolding fields
newline_left numbers k h = rw (drop_of_length-le numbers h)

-- a line is its word and what follows it
pub word_then : (word numbers : List ℕ) → line word numbers ≡ word ++ fields numbers
unfolding line
word_then word numbers = refl

-- ---- how long a line is

-- 11 bytes for each number at most
fields_long : (numbers : List ℕ) → UpTo largest numbers → length (fields numbers) ≤ 1 + 11 * length numbers
unfolding fields
fields_long [] u = omega arith
fields_long (n ∷ numbers) u =
    omega (arith, fields_long numbers (λ k. u (suc k)), length_32 n (u 0), length-append (digits n) (fields numbers))

pub line_long : (word numbers : List ℕ) → UpTo largest numbers → length (line word numbers) ≤ length word + (1 + 11 * length numbers)
unfolding line
line_long word numbers u = omega (arith, fields_long numbers u, length-append word (fields numbers))
