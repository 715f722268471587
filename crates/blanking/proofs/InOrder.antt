-- What the tests of a blanking call that need no look at the cells tell: run, threshold, guard and map are in order. Assumes nothing.
use Prim.Native.Nat.{ℕ, ◌/◌, ◌≤◌}
use native.Mathlib.Omega.{arith}
use mathlib.Core.List.{List}
use lib.IntN.{pos, neg_ℤ}
use lib.ListN.{length}
use borrow.Author.Tests.{eqb-false}
use Rattle.signed.proofs.Parts.{parts, lt_z_false, le_z_false}
use Rattle.scope.specs.declared.Run.{Run}
use Rattle.scope.specs.Run.{cells_of}
use Rattle.scope.proofs.Judged.{Passes}
use Rattle.scope.proofs.Limits.{passes_when, passes_first, passes_then, valid_run}
use Rattle.scope.proofs.Differs.{same}
use Rattle.blanking.specs.declared.Guard.{Guard}
use Rattle.blanking.specs.Promise.{guard_tests, asked_tests}
use Rattle.blanking.specs.Inner.{Guarded}

pub guarded : {run : Run} {map : List ℕ} {threshold : ℕ} {guard : Guard} → run.interval ≤ 4294967295 → Passes (asked_tests run map threshold guard) → Guarded run map threshold guard
unfolding asked_tests guard_tests
guarded {run} {map} {threshold} {guard} fits p =
    let asked = passes_first p in
    let v = valid_run (passes_first (passes_first asked)) fits in
    let g = passes_then asked in
    let half = pos (run.window / 2) in
    let left = lt_z_false guard.lowest (neg_ℤ half) (passes_when (passes_first (passes_first g))) in
    let right = le_z_false half guard.highest (passes_when (passes_then (passes_first g))) in
    let upright = lt_z_false guard.highest guard.lowest (passes_when (passes_then g)) in
    record {
      valid = v;
      some = omega (arith, eqb-false threshold 0 (passes_when (passes_then (passes_first asked))));
      low = record { narrow = v.wide; left = left; right = omega (arith, parts, right, upright) };
      high = record { narrow = v.wide; left = omega (arith, parts, left, upright); right = right };
      upright = upright;
      whole = same (length map) (cells_of run) (passes_then p);
    }
