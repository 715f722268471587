-- The tests of runs and sources say what their rows of the table say; and what the tests of numbers say. Assumes nothing.
use Prim.Native.Nat.{ℕ, ◌%◌, ◌≤◌, ◌<◌}
use mathlib.Core.Path.{◌≡◌, ap}
use mathlib.Core.Logic.{◌↔◌, ◌≢◌}
use mathlib.Core.Bool.{true, not}
use mathlib.Core.List.{[], ◌∷◌}
use lib.Dec.{ltb, leb, eqb}
use borrow.Author.Tests.{ltb-true, lt-ltb, leb-true, le-leb, eqb-true, eq-eqb, eqb-false, ne_eqb, not-true}
use Rattle.scope.specs.declared.Run.{Run}
use Rattle.scope.specs.declared.Source.{Source}
use Rattle.scope.specs.Refusal.{window_tests, line_tests, run_tests, period_tests, phase_tests, source_tests}
use Rattle.scope.specs.Table.{◌given◌, BadWindow, BadPeriod, BadPhase, run_table}
use Rattle.scope.proofs.Rendered.{Renders, ◌next◌, one, either}

-- ---- the tests of numbers

pub below : (a b : ℕ) → (ltb a b ≡ true) ↔ (a < b)
below a b = (ltb-true a b, lt-ltb a b)

pub at_most : (a b : ℕ) → (leb a b ≡ true) ↔ (a ≤ b)
at_most a b = (leb-true a b, le-leb a b)

pub equal : (a b : ℕ) → (eqb a b ≡ true) ↔ (a ≡ b)
equal a b = (eqb-true a b, eq-eqb a b)

pub unequal : (a b : ℕ) → (not (eqb a b) ≡ true) ↔ (a ≢ b)
unequal a b = (λ e. eqb-false a b (not-true (eqb a b) e), λ n. ap not (ne_eqb a b n))

-- ---- runs and sources

pub window_renders : (window : ℕ) → Renders (window_tests window) (1 given BadWindow window ∷ [])
unfolding window_tests
window_renders window = either (either (one (equal (window % 2) 1)) (one (below window 2))) (one (below 4096 window))

lines_renders : (first last : ℕ) → Renders (line_tests first last) (17 given (last < first) ∷ 18 given (16777216 < last) ∷ [])
unfolding line_tests
lines_renders first last = one (below last first) next one (below 16777216 last)

pub run_renders : (run : Run) → Renders (run_tests run) (run_table run)
unfolding run_tests
run_renders run = window_renders run.window next lines_renders run.first run.last next one (equal run.interval 0)

pub period_renders : (period : ℕ) → Renders (period_tests period) (4 given BadPeriod period ∷ [])
unfolding period_tests
period_renders period = either (one (equal period 0)) (one (below 2147483647 period))

pub phase_renders : (source : Source) → Renders (phase_tests source) (22 given BadPhase source ∷ [])
unfolding phase_tests
phase_renders source = one (at_most source.period source.phase)

-- "22 .. after 4 where no weight is given"
pub source_renders : (source : Source) → Renders (source_tests source) (4 given BadPeriod source.period ∷ 22 given BadPhase source ∷ [])
unfolding source_tests
source_renders source = period_renders source.period next phase_renders source
