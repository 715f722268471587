-- The tests of the vectors call say what its table says, row by row. Assumes nothing.
use Prim.Native.Nat.{ℕ}
use Rattle.scope.proofs.Rendered.{Renders, ◌next◌, one}
use Rattle.scope.proofs.Table.{below, at_most, window_renders, period_renders}
use Rattle.vectors.specs.Promise.{vectors_tests}
use Rattle.vectors.specs.Table.{vectors_table}

-- "Vectors: 1, 4, 5, 6."
pub vectors_renders : (p r I : ℕ) → Renders (vectors_tests p r I) (vectors_table p r I)
unfolding vectors_tests
vectors_renders p r I = window_renders I next period_renders p next one (at_most p r) next one (below p I)
