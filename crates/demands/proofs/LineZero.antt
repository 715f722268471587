-- Request E2: "Lines run from 0; a first line of 0 is accepted everywhere, in saved maps too. Demands 2 and 3 cover line 0 from here on."
-- The theorems of demands 2 and 3 ask no more of a run than that it is within the limits, and of its first line these ask only that it is
-- not after the last. Here is what that says of line 0. Assumes nothing.
use Prim.Native.Nat.{◌-◌, ◌*◌, ◌/◌, ◌≤◌, ◌<◌, ◌∣◌}
use native.Mathlib.Nat.{dvd-zero, le_of_dvd}
use native.Mathlib.Omega.{arith}
use mathlib.Core.Path.{◌≡◌, ap}
use mathlib.Core.Logic.Iff
use mathlib.Core.Logic.{◌↔◌}
use mathlib.Core.List.{List, Memᴰ}
use lib.IntN.{ℤ, pos, neg_ℤ, nat_abs, ◌+ℤ◌, ◌-ℤ◌}
use Rattle.signed.proofs.Parts.{parts, apart, sum, neg_up, neg_dn, abs_parts, same_parts}
use Rattle.scope.specs.declared.Run.{Run}
use Rattle.scope.specs.declared.Source.{Source}
use Rattle.scope.specs.declared.RunCell.{RunCell}
use Rattle.scope.specs.declared.BlockCell.{BlockCell}
use Rattle.scope.specs.Run.{ValidRun, InRun, run_with, line_of, offset_of, shift_of, to_run}
use Rattle.scope.specs.Hit.{Hits, instant}
use Rattle.scope.specs.Table.{Silent, run_table}
use Rattle.hits.specs.Proposition.{InWindow}
use Rattle.demands.specs.Cut.{Cut}
use Rattle.demands.specs.Listing.{Listings, joined}
use Rattle.demands.proofs.Demand3Listing.{joined_offsets}

-- "a first line of 0 is accepted everywhere": where the rows of a run, which stand in the table of every call with one, say nothing,
-- they say nothing of the run that begins at line 0 and is the same otherwise.
pub zero_silent : (run : Run) → Silent (run_table run) → Silent (run_table (run_with run.window run.interval 0 run.last))
zero_silent run s = (s.0, (λ before. omega arith, (s.1.1.0, (s.1.1.1.0, tt))))

-- On line 0 a source hits the offsets i for which its period divides i + s, s being its phase.
pub hits_on_zero : (run : Run) (source : Source) (i : ℤ) → Hits run source i 0 ↔ (source.period ∣ nat_abs (i +ℤ pos source.phase))
unfolding Hits instant
hits_on_zero run source i =
    let start = pos (run.interval * 0) in
    let s = pos source.phase in
    let size : nat_abs ((start -ℤ i) -ℤ s) ≡ nat_abs (i +ℤ s) = omega (arith, abs_parts ((start -ℤ i) -ℤ s), abs_parts (i +ℤ s), apart ((start -ℤ i) -ℤ s), apart (i +ℤ s), sum start (neg_ℤ i), neg_up i, neg_dn i, sum (start -ℤ i) (neg_ℤ s), neg_up s, neg_dn s, sum i s) in
    rw size (λ h. h, λ h. h)

-- "every source of today hits offset 0 there": at phase 0, which was every source's then.
pub zero_hit : (run : Run) (source : Source) → source.phase ≡ 0 → Hits run source (pos 0) 0
zero_hit run source unphased = (hits_on_zero run source (pos 0)).1 (rw unphased (dvd-zero source.period))

-- "For p ≥ I there is at most one hit on a line": on line 0 at phase 0 it is the one at offset 0.
pub zero_alone : (run : Run) (source : Source) → source.phase ≡ 0 → run.window ≤ source.period → (i : ℤ) → InWindow run i → Hits run source i 0 ↔ (i ≡ pos 0)
zero_alone run source unphased wide i inside = (
  λ h. same_parts i (pos 0) (omega (arith, near h, abs_parts i)),
  λ e. rw e (zero_hit run source unphased),
)
  where
    same : nat_abs (i +ℤ pos source.phase) ≡ nat_abs i
    same = omega (arith, unphased, abs_parts (i +ℤ pos source.phase), abs_parts i, apart (i +ℤ pos source.phase), apart i, sum i (pos source.phase))

    near : Hits run source i 0 → nat_abs i ≡ 0
    near h =
        let half : nat_abs i < source.period = omega (arith, parts, abs_parts i, apart i, neg_up (pos (run.window / 2)), neg_dn (pos (run.window / 2))) in
        let none : 0 < nat_abs i → ⊥ = λ some. omega (arith, le_of_dvd some (rw same at ((hits_on_zero run source i).0 h))) in
        omega (arith, none)

-- Demand 3 at line 0: the lists of every cut of a run that begins there, joined, have the cell of line 0 at an offset i of the window
-- exactly if the period divides i + s.
pub zero_listed : (run : Run) (source : Source) (blocks : List Run) → ValidRun run → run.first ≡ 0 → Cut run blocks → (lists : Listings source blocks) → (i : ℤ) → InWindow run i → (source.period ∣ nat_abs (i +ℤ pos source.phase)) ↔ ((y : RunCell) × Memᴰ y (joined run source blocks lists) × (offset_of run y.0 ≡ i) × (line_of run y.0 ≡ 0))
zero_listed run source blocks v zero cut lists i inside =
    let rule = hits_on_zero run source i in
    Iff.trans (rule.1, rule.0) (joined_offsets run source blocks v cut lists i 0 in_run)
  where
    in_run : InRun run i 0
    in_run = record { left = inside.left; right = inside.right; from = omega (arith, zero); to = omega arith }

-- A block that begins with its run, at line 0 or elsewhere, is not shifted: its cells have the run's numbers.
pub first_block_stays : (run block : Run) → block.first ≡ run.first → (x : BlockCell) → (to_run run block x).0 ≡ x.0
unfolding shift_of
first_block_stays run block e x =
    let none : block.first - run.first ≡ 0 = omega (arith, e) in
    omega (arith, ap (λ n. n * run.window) none)
