-- Lists of numbers, whatever they count: their limit, and zeros.
use Rattle.std.specs.Prelude.{ℕ, ◌-◌, ◌≤◌, List, ◌++◌, length, get_or, replicate}

-- No number of the list is above `most` (01: "map cell: one byte", "decimal numbers up to 4,294,967,295").
abbrev pub UpTo : ℕ → List ℕ → Type 0
UpTo most numbers = (k : ℕ) → get_or numbers k 0 ≤ most

-- So many cells, bytes or numbers with nothing in them (01: "a cleared map").
unfoldable pub zeros : ℕ → List ℕ
zeros n = replicate n 0

-- A list that begins with these numbers and is filled up with zeros to `size` numbers.
unfoldable pub padded : ℕ → List ℕ → List ℕ
padded size numbers = numbers ++ zeros (size - length numbers)
