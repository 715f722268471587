-- `Vector::plus` meets its contract: the lines fit (Sequence). Assumes nothing.
use Rattle.std.proofs.Common.{arith}
use Rattle.vectors.proofs.Sequence.{lines_fit}
use Rattle.vectors.proofs.Vector.plus.Goals as goal

pub overflow_mul-result : goal.overflow_mul-result
overflow_mul-result c = let few = lines_fit c.requires in record { fits = omega arith }

pub overflow_add-result : goal.overflow_add-result
overflow_add-result c = let few = lines_fit c.requires in record { fits = omega arith }
