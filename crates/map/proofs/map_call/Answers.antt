-- `map::map_call` meets its contract: refused as judged, or the sources added to what the map starts from. Assumes nothing.
use native.Mathlib.Omega.{arith}
use mathlib.Core.List.{List}
use Prim.Native.Nat.{ℕ, ◌≤◌}
use Rattle.scope.specs.declared.Run.{Run}
use Rattle.scope.specs.Run.{ceiling}
use Rattle.scope.proofs.Judged.{Passes}
use Rattle.scope.proofs.Limits.{passes_first, passes_then, valid_run}
use Rattle.sources.specs.Entry.{entries_of}
use Rattle.sources.proofs.Entries.{valid_lists}
use Rattle.sources.proofs.Granted.{granted_by}
use Rattle.map.specs.Promise.{map_tests}
use Rattle.map.specs.Inner.{ValidCall}
use Rattle.map.proofs.Calls.{passes_whole}
use Rattle.map.proofs.map_call.Goals as goal

-- a call that is not refused is in order
valid_call : (run : Run) (periods weights phases map : List ℕ) → run.interval ≤ 4294967295 → Passes (map_tests ceiling run periods weights phases map) → ValidCall run (entries_of periods weights phases) map
unfolding map_tests
valid_call run periods weights phases map fits p =
    let lists = (valid_lists ceiling periods weights phases).0 (passes_then (passes_first p)) in
    record { valid = valid_run (passes_first (passes_first p)) fits; sound = lists.1.is; whole = passes_whole ceiling run periods weights phases map p }

pub add_all-requires : goal.add_all-requires
add_all-requires c =
    let judged = granted_by _ c.judge.ensures c.in_ok-sources.was in
    rw judged.1 (valid_call _ _ _ _ _ (omega (arith, c.well_formed.0)) judged.0)
