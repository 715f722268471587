-- Document 01, "The list program": a line of words and numbers. A text is a list of bytes.
use Rattle.std.specs.Prelude.{ℕ, List, [], ◌∷◌, ◌++◌}
use Rattle.decimal.specs.Digits.{digits}

-- "Single spaces, decimal numbers .., a newline after each line": what follows the word that a line begins with.
unfoldable pub fields : List ℕ → List ℕ
fields [] = 10 ∷ []
fields (n ∷ numbers) = 32 ∷ digits n ++ fields numbers

-- "one line `run I T first last`" and the others: a word and its numbers.
unfoldable pub line : List ℕ → List ℕ → List ℕ
line word numbers = word ++ fields numbers
