-- Document 01, "The refusal numbers", as propositions: the rows of the vectors call, in its order.
use Rattle.std.specs.Prelude.{ℕ, ◌≤◌, ◌<◌, List, [], ◌∷◌}
use Rattle.scope.specs.Table.{Row, ◌given◌, BadWindow, BadPeriod}

-- "Order. Vectors: 1, 4, 5, 6."
abbrev pub vectors_table : ℕ → ℕ → ℕ → List Row
vectors_table p r I =
    1 given BadWindow I ∷
    4 given BadPeriod p ∷
    5 given (p ≤ r) ∷
    6 given (p < I) ∷ []
