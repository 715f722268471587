-- `map::add_chosen` meets its contract. The loop's invariant: the chosen sources from k on, added to the map as it is, make what all
-- chosen sources make of the map as it was. Assumes nothing.
use mathlib.Core.Path.{◌≡◌}
use mathlib.Core.List.{List}
use Prim.Native.Nat.{ℕ}
use lib.ListN.{length, drop}
use Rattle.scope.specs.declared.Run.{Run}
use Rattle.scope.specs.Run.{ceiling, UpTo}
use Rattle.sources.specs.declared.Entry.{Entry}
use Rattle.map.specs.Promise.{added}
use Rattle.map.specs.Inner.{chosen}
use Rattle.map.proofs.Entries.{ValidEntries}
use Rattle.map.proofs.add_chosen.Given as goal

pub record Left (run : Run) (sources : List Entry) (low high : ℕ) (map₀ map : List ℕ) (k : ℕ) : Type 0 where
  pub valid : ValidEntries ceiling (drop k sources)
  pub as_long : length map ≡ length map₀
  pub small : UpTo ceiling map
  pub same : added ceiling run (chosen low high (drop k sources)) map ≡ added ceiling run (chosen low high sources) map₀

abbrev pub invariant-loop-k : goal.invariant-loop-k
invariant-loop-k l = Left l.run l.sources l.low l.high l.initial.map l.map l.k
