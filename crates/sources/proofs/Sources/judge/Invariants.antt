-- `sources::Sources::judge` meets its contract. The loop's invariant: what the tests of all sources come to is what those of the sources
-- from k on come to, the ones before k having passed theirs. Assumes nothing.
use mathlib.Core.Path.{◌≡◌}
use mathlib.Core.List.{List}
use Prim.Native.Nat.{ℕ, suc}
use lib.ListN.{drop}
use Rattle.scope.specs.Refusal.{complaint}
use Rattle.scope.specs.Run.{ceiling}
use Rattle.sources.specs.declared.Entry.{Entry}
use Rattle.sources.specs.Entry.{list_tests}
use Rattle.sources.proofs.Sources.judge.Given as goal

pub record From (entries : List Entry) (k : ℕ) : Type 0 where
  pub is : complaint (list_tests ceiling 1 entries) ≡ complaint (list_tests ceiling (suc k) (drop k entries))

abbrev pub invariant-loop-k : goal.invariant-loop-k
invariant-loop-k l = From l.self l.k
