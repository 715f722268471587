-- The map that is printed: what the plain call makes in cells as many as the run has. Assumes nothing.
use Rattle.std.specs.Prelude.{Result, Ok}
use Prim.Native.Nat.{ℕ}
use mathlib.Core.Path.{◌≡◌, sym, ◌∙◌}
use mathlib.Core.Bool.{not, false}
use mathlib.Core.List.{List}
use lib.Dec.{eqb}
use lib.ListN.{length}
use borrow.Author.Tests.{eq-eqb}
use Rattle.scope.specs.declared.Run.{Run}
use Rattle.scope.specs.declared.Refusal.{Refusal}
use Rattle.scope.specs.Run.{ValidRun, ceiling, cells_of}
use Rattle.scope.proofs.Judged.{Passes, sound, both, grant_reply, grant_stored}
use Rattle.scope.proofs.Limits.{valid_run_passes}
use Rattle.sources.specs.Entry.{entries_of, list_tests}
use Rattle.sources.specs.Lists.{OneLength}
use Rattle.sources.proofs.Entries.{valid_lists}
use Rattle.map.specs.Promise.{map_tests, MakingPromise}
use Rattle.map.proofs.Calls.{says_map_injective}
use Rattle.report.specs.Report.{reported_map}

module _ {run : Run} {periods weights phases map : List ℕ} {answer : Result (Unit {0}) Refusal} {after : List ℕ}
    (v : ValidRun run) (equal : OneLength periods weights phases) (p : Passes (list_tests ceiling 1 (entries_of periods weights phases)))
    (whole : length map ≡ cells_of run) (promise : MakingPromise run periods weights phases map answer after) where
  passes : Passes (map_tests ceiling run periods weights phases map)
  unfolding map_tests
  passes =
      let long : not (eqb (length map) (cells_of run)) ≡ false = rw (eq-eqb (length map) (cells_of run) whole) in
      both (both (valid_run_passes v) ((valid_lists ceiling periods weights phases).1 (equal, p))) (sound long)

  pub map_made : answer ≡ Ok tt
  map_made = says_map_injective answer (Ok tt) (promise.says ∙ sym (grant_reply tt passes))

  pub map_is : after ≡ reported_map run (entries_of periods weights phases)
  unfolding reported_map
  map_is = promise.stores ∙ sym (grant_stored _ _ passes)
