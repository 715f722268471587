-- Numbers as text (01, "The list program"): "decimal numbers up to 4,294,967,295 without sign or leading zeros (0 itself is `0`)".
-- A text is a list of bytes.
use Rattle.std.specs.Prelude.{ℕ, zero, suc, ◌+◌, ◌/◌, ◌%◌, true, false, List, [], ◌∷◌, ◌++◌, ltb}

-- "up to 4,294,967,295".
abbrev pub largest : ℕ
largest = 4294967295

-- The last digits of n in decimal, `most` of them at most.
unfoldable pub digits_within : ℕ → ℕ → List ℕ
digits_within zero n = []
digits_within (suc most) n =
    elim (ltb n 10) [ true ↦ (48 + n) ∷ [] | false ↦ digits_within most (n / 10) ++ ((48 + n % 10) ∷ []) ]

-- "decimal numbers ... without sign or leading zeros (0 itself is `0`)": all the digits of n, which are no more than n + 1, the most significant first.
unfoldable pub digits : ℕ → List ℕ
digits n = digits_within (suc n) n
