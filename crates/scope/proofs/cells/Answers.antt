-- `scope::cells` meets its contract: at most 4,096 cells on each of at most 16,777,217 lines. Assumes nothing.
use native.Mathlib.Omega.{arith}
use mathlib.Core.Path.{ap}
use Prim.Native.Nat.{◌*◌}
use Rattle.scope.specs.Run.{cells_of, lines_of}
use Rattle.scope.proofs.cells.Goals as goal

pub returns : goal.returns
unfolding cells_of lines_of
returns c = let v = c.requires in ap (λ n. c.args.run.window * n) (omega arith)
