-- `sources::Sources::try_new` meets its contract: the first test of the lengths that fails, or the list. Assumes nothing.
use mathlib.Core.Path.{refl}
use native.Mathlib.Omega.{arith}
use Rattle.sources.proofs.Entries.{lengths_pass, lengths_fail}
use Rattle.sources.proofs.Granted.{refuses, grants}
use Rattle.sources.proofs.Sources.try_new.Goals as goal

pub returns-then-weights_differ : goal.returns-then-weights_differ
returns-then-weights_differ c = refuses _ (lengths_fail _ _ _ (λ v. omega (arith, v, c.then-weights_differ.either))) (rw c.alone.ensures refl)

pub returns : goal.returns
returns c = grants (lengths_pass _ _ _ (omega arith, omega arith)) c.new.ensures
