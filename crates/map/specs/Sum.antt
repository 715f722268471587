-- Document 01, "Map", and request E6: sums that stop at a ceiling. Any ceiling c will do here; 01's is named in the promises.
use Rattle.std.specs.Prelude.{ℕ, zero, suc, ◌+◌, min, List, [], ◌∷◌}

-- "the smaller of 255 and" a sum, of any ceiling c.
abbrev pub capped : ℕ → ℕ → ℕ
capped c sum = min c sum

-- "Every cell becomes the smaller of 255 and old value + .." what its number gains: the cells from number x on.
unfoldable pub raised : ℕ → (ℕ → ℕ) → ℕ → List ℕ → List ℕ
raised c gain x [] = []
raised c gain x (old ∷ cells) = capped c (old + gain x) ∷ raised c gain (suc x) cells

-- n cells from number x on, whatever they held (E6): each becomes "the smaller of 255 and" what its number gains.
unfoldable pub summed : ℕ → (ℕ → ℕ) → (x n : ℕ) → List ℕ
summed c gain x zero = []
summed c gain x (suc n) = capped c (gain x) ∷ summed c gain (suc x) n
