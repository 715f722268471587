-- The tests of 01's table against the table itself: a run passes its tests exactly if it is `ValidRun`, and a complaint is
-- the first broken row of the call's list of rows. Then the sizes that the table allows. Assumes nothing.
use Prim.Native.Nat.{ℕ, ◌+◌, ◌/◌, ◌%◌, ◌^◌, ◌≤◌, ◌<◌}
use native.Mathlib.Nat.{mul-le-mul, le-mul_of_pos_right}
use native.Mathlib.Omega.{arith}
use mathlib.Core.Path.{◌≡◌, refl}
use mathlib.Core.Bool.{Bool, true, false, cond}
use mathlib.Core.Option.{Option, some, none}
use borrow.Author.Tests.{ltb-false, le-ltb, leb-false, lt-leb, eqb-false, ne_eqb}
use Rattle.scope.specs.declared.Run.{Run}
use Rattle.scope.specs.declared.Source.{Source}
use Rattle.scope.specs.Run.{ValidRun, ValidSource, lines_of, cells_of}
use Rattle.scope.specs.Refusal.{Refusal, Tests, ◌when◌, ◌and_then◌, of_source, or_else, placed, complaint, window_tests, line_tests, run_tests, period_tests, phase_tests, source_tests}
use Rattle.scope.specs.declared.Reason.{Reason}
use Rattle.scope.proofs.Judged.{Passes, sound, both}

-- ---- what tests that pass tell

pub passes_when : {reason : Reason} {wrong : Bool} → Passes (reason when wrong) → wrong ≡ false
unfolding complaint
passes_when {reason} {wrong} p = go wrong p.is
  where
    go : (b : Bool) → complaint (reason when b) ≡ none → b ≡ false
    go true e = cc
    go false e = refl

-- of two complaints one after the other there is none
neither : (a b : Option Refusal) → or_else a b ≡ none → (a ≡ none) × (b ≡ none)
neither none b e = (refl, e)
neither (some c) b e = (cc, cc)

pub passes_first : {a b : Tests} → Passes (a and_then b) → Passes a
unfolding complaint
passes_first {a} {b} p = record { is = (neither (complaint a) (complaint b) p.is).0 }

pub passes_then : {a b : Tests} → Passes (a and_then b) → Passes b
unfolding complaint
passes_then {a} {b} p = record { is = (neither (complaint a) (complaint b) p.is).1 }

pub passes_source : {k : ℕ} {tests : Tests} → Passes (of_source k tests) → Passes tests
unfolding complaint
passes_source {k} {tests} p = record { is = go (complaint tests) p.is }
  where
    go : (o : Option Refusal) → placed k o ≡ none → o ≡ none
    go none e = refl
    go (some c) e = cc

-- ---- the table's ranges

-- "window I: even, 2 to 4,096"
pub record ValidWindow (window : ℕ) : Type 0 where
  pub even : window % 2 ≡ 0
  pub narrow : 2 ≤ window
  pub wide : window ≤ 4096

pub valid_window : {window : ℕ} → Passes (window_tests window) → ValidWindow window
unfolding window_tests
valid_window {window} p =
    let odd = eqb-false (window % 2) 1 (passes_when (passes_first (passes_first p))) in
    let low = ltb-false window 2 (passes_when (passes_then (passes_first p))) in
    let high = ltb-false 4096 window (passes_when (passes_then p)) in
    omega arith

pub valid_window_passes : {window : ℕ} → ValidWindow window → Passes (window_tests window)
unfolding window_tests
valid_window_passes {window} v = both (both (sound (ne_eqb (window % 2) 1 (omega arith))) (sound (le-ltb _ _ v.narrow))) (sound (le-ltb _ _ v.wide))

run_window : {run : Run} → ValidRun run → ValidWindow run.window
run_window v = omega arith

-- "period p: 1 to 2,147,483,647"
pub valid_period : {period : ℕ} → Passes (period_tests period) → (1 ≤ period) × (period ≤ 2147483647)
unfolding period_tests
valid_period {period} p =
    let some_ticks = eqb-false period 0 (passes_when (passes_first p)) in
    (omega arith, ltb-false 2147483647 period (passes_when (passes_then p)))

pub valid_source : {source : Source} → Passes (source_tests source) → ValidSource source
unfolding source_tests phase_tests
valid_source {source} p =
    let period = valid_period (passes_first p) in
    record { ticks = period.0; fits = period.1; phased = leb-false source.period source.phase (passes_when (passes_then p)) }

pub valid_source_passes : {source : Source} → ValidSource source → Passes (source_tests source)
unfolding source_tests period_tests phase_tests
valid_source_passes {source} v = both (both (sound (ne_eqb source.period 0 (omega arith))) (sound (le-ltb _ _ v.fits))) (sound (lt-leb _ _ v.phased))

pub valid_run : {run : Run} → Passes (run_tests run) → run.interval ≤ 4294967295 → ValidRun run
unfolding run_tests line_tests
valid_run {run} p fits =
    let w = valid_window (passes_first (passes_first p)) in
    let ordered = ltb-false run.last run.first (passes_when (passes_first (passes_then (passes_first p)))) in
    let ends = ltb-false 16777216 run.last (passes_when (passes_then (passes_then (passes_first p)))) in
    let ticks = eqb-false run.interval 0 (passes_when (passes_then p)) in
    omega arith

pub valid_run_passes : {run : Run} → ValidRun run → Passes (run_tests run)
unfolding run_tests line_tests
valid_run_passes {run} v =
    both
    (both
    (valid_window_passes (run_window v))
    (both (sound (le-ltb _ _ v.ordered)) (sound (le-ltb _ _ v.ends))))
    (sound (ne_eqb run.interval 0 (omega arith)))

-- ---- a call's rows

-- a function of a choice is a choice of its values
pub of_cond : {A B : Type 0} (f : A → B) (b : Bool) (x y : A) → f (cond b x y) ≡ cond b (f x) (f y)
of_cond f true x y = refl
of_cond f false x y = refl

-- two halves of the window make the window
pub halves : {run : Run} → ValidRun run → run.window / 2 + run.window / 2 ≡ run.window
halves v = omega arith

lines_few : {run : Run} → ValidRun run → lines_of run ≤ 16777217
unfolding lines_of
lines_few v = omega arith

pub lines_some : {run : Run} → ValidRun run → 1 ≤ lines_of run
unfolding lines_of
lines_some v = omega arith

pub cells_few : {run : Run} → ValidRun run → cells_of run < 2 ^ 37
unfolding cells_of
cells_few v = let h = mul-le-mul v.wide (lines_few v) in omega arith

-- there is a whole line
pub window_cells : {run : Run} → ValidRun run → run.window ≤ cells_of run
unfolding cells_of
window_cells {run} v = le-mul_of_pos_right run.window (lines_some v)
