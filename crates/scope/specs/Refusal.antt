-- Document 01, "The refusal numbers", and requests E1, E3 and E5: why a call is refused, and where; and the tests that runs and sources
-- pass in every call.
use Rattle.std.specs.Prelude.{ℕ, ◌%◌, ◌≡◌, ◌⊎◌, Bool, cond, ltb, leb, eqb}
use Rattle.std.proofs.Math.Option.{Option, some, none}
use Rattle.scope.specs.declared.Run.{Run}
use Rattle.scope.specs.declared.Source.{Source}
use Rattle.scope.specs.declared.Reason.{Reason}
use Rattle.scope.specs.declared.Reason.TheVariants.{Window, LineOrder, LastLine, Interval, Period, Remainder, WiderThanPeriod, Weight, Start, Room, Lists, Text, TooMany, FileBlocks, Check, Layout, Threshold, Guard, StretchRoom, Phase}
-- "a refusal carries the reason and, where it concerns a source, that place" (E1).
pub use Rattle.scope.specs.declared.Refusal.{Refusal}
use Rattle.scope.specs.declared.Place.TheVariants.{Nowhere, AtSource}

-- The number of each reason. In quotes above it: when it is given, from 01's table, for 17 and 18 from request E1: "Split it: ..
-- last line before the first, last line above the limit"; "in the place of 2"; for 19 to 21 from request E3; and for 22 from request E5.
abbrev pub number : Reason → ℕ
-- "window odd, below 2 or above 4,096"
number Window = 1
-- "last line before the first"
number LineOrder = 17
-- "last line above the limit"
number LastLine = 18
-- "interval 0"
number Interval = 3
-- "period 0 or above 2,147,483,647"
number Period = 4
-- "vectors: r ≥ p"
number Remainder = 5
-- "vectors: I > p"
number WiderThanPeriod = 6
-- "weight 0 or above 255"
number Weight = 7
-- "starting cell not in the run"
number Start = 8
-- "listing room 0; map or file room not of the exact length"
number Room = 9
-- "period and weight lists of unequal length"; "10 covers the third list" (E5)
number Lists = 10
-- "text not of the form below"
number Text = 11
-- "text: more than 64 sources, or a run of more than 65,536 cells"
number TooMany = 12
-- "saved file: no whole number of blocks, none, or not as many as its run needs"
number FileBlocks = 13
-- "saved file: wrong block number or check"
number Check = 14
-- "saved file: version, spare byte or filling not as laid down"
number Layout = 15
-- "threshold 0"
number Threshold = 19
-- "guard outside the window or upside down"
number Guard = 20
-- "exactly when the room holds fewer stretches than there are"
number StretchRoom = 21
-- "phase not below period"
number Phase = 22

-- "2, which is no longer given" (E1); "16 is shown never to occur and is taken out" (E2).
abbrev pub Withdrawn : ℕ → Type 0
Withdrawn n = (n ≡ 2) ⊎ (n ≡ 16)

infix 45 ◌when◌
infixl 40 ◌and_then◌
-- The tests of a call, written in the order of 01's paragraph "Order", or of the request that the call comes from.
pub data Tests : Type 0 where
  -- one test: the reason is given when this is so
  ◌when◌ : Reason → Bool → Tests
  -- the tests on the left, and if they pass those on the right
  ◌and_then◌ : Tests → Tests → Tests
  -- tests of the source at a place of a list, counted from 1
  of_source : ℕ → Tests → Tests
  -- no test
  nothing : Tests

-- The first complaint, or else the second.
abbrev pub or_else : Option Refusal → Option Refusal → Option Refusal
or_else none other = other
or_else (some c) other = some c

-- "Where a source in a list is at fault .. its place, counted from 1" (E1).
abbrev pub placed : ℕ → Option Refusal → Option Refusal
placed k none = none
placed k (some c) = some (record { reason = c.reason; place = AtSource k })

-- The complaint about a call: the first of its tests that fails, if any.
unfoldable pub complaint : Tests → Option Refusal
complaint (reason when wrong) = cond wrong (some (record { reason = reason; place = Nowhere })) none
complaint (first and_then rest) = or_else (complaint first) (complaint rest)
complaint (of_source k tests) = placed k (complaint tests)
complaint nothing = none

-- "1: window odd, below 2 or above 4,096".
unfoldable pub window_tests : ℕ → Tests
window_tests window =
    Window when eqb (window % 2) 1 and_then
    Window when ltb window 2 and_then
    Window when ltb 4096 window

-- "17, 18 in the order named, in the place of 2" (E1): "last ≥ first, last ≤ 16,777,216". "a first line of 0 is accepted everywhere" (E2).
unfoldable pub line_tests : ℕ → ℕ → Tests
line_tests first last =
    LineOrder when ltb last first and_then
    LastLine when ltb 16777216 last

-- "1, 2, 3", with 17, 18 for 2 (E1, E2): a run's tests. "3: interval 0".
unfoldable pub run_tests : Run → Tests
run_tests run =
    window_tests run.window and_then
    line_tests run.first run.last and_then
    Interval when eqb run.interval 0

-- "4: period 0 or above 2,147,483,647".
unfoldable pub period_tests : ℕ → Tests
period_tests period =
    Period when eqb period 0 and_then
    Period when ltb 2147483647 period

-- "22 phase not below period" (E5).
unfoldable pub phase_tests : Source → Tests
phase_tests source = Phase when leb source.period source.phase

-- A source's tests where no weight is given: "22 .. after 4" (E5).
unfoldable pub source_tests : Source → Tests
source_tests source =
    period_tests source.period and_then
    phase_tests source

-- "7: weight 0 or above 255", of any ceiling c.
unfoldable pub weight_tests : ℕ → ℕ → Tests
weight_tests c weight =
    Weight when eqb weight 0 and_then
    Weight when ltb c weight
