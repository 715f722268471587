-- Document 01, "The refusal numbers", and requests E1 and E5, as propositions: what a table of rows says, the rows of runs, and
-- what is wrong with a source.
use Rattle.std.specs.Prelude.{ℕ, ◌%◌, ◌≤◌, ◌<◌, ◌≡◌, ◌↔◌, ◌⊎◌, List, [], ◌∷◌}
use Rattle.scope.specs.declared.Run.{Run}
use Rattle.scope.specs.declared.Source.{Source}
use Rattle.scope.specs.declared.Place.{Place}
use Rattle.scope.specs.declared.Place.TheVariants.{Nowhere, AtSource}

-- A row of the table: "no." and "given when"; and the place that the refusal then has.
pub record Row : Type 1 where
  pub number : ℕ
  pub place : Place
  pub when : Type 0

infix 70 ◌given◌
-- The row with this number, given when this is so. It concerns no source of a list.
abbrev pub ◌given◌ : ℕ → Type 0 → Row
◌given◌ n wrong = record { number = n; place = Nowhere; when = wrong }

infix 70 ◌at◌given◌
-- The same of the source at place k of a list.
abbrev pub ◌at◌given◌ : ℕ → ℕ → Type 0 → Row
◌at◌given◌ n k wrong = record { number = n; place = AtSource k; when = wrong }

-- Demand 1: "Bad input gets the refusal number .., exactly when its table says so": a row with this number and this place is so, and
-- no row before it.
abbrev pub Says : List Row → ℕ → Place → Type 0
Says [] n place = ⊥
Says (row ∷ rows) n place = ((row.number ≡ n) × (row.place ≡ place) × row.when) ⊎ ((row.when → ⊥) × Says rows n place)

-- The table says nothing: no row is so.
abbrev pub Silent : List Row → Type 0
Silent [] = Unit {0}
Silent (row ∷ rows) = (row.when → ⊥) × Silent rows

-- A place as a number of a C function's answer: "counted from 1", and 0 where there is none.
abbrev pub PlaceTold : Place → ℕ → Type 0
PlaceTold Nowhere told = told ≡ 0
PlaceTold (AtSource k) told = (told ≡ k) × (1 ≤ k)

-- What a C function's answer tells: the refusal is n, not 0, and the place told is this one exactly when the table says n at this
-- place; both are 0 exactly when it says nothing. Where an answer has no place, 0 stands for it.
pub record Tells (Table : ℕ → Place → Type 0) (refusal told : ℕ) : Type 0 where
  pub refuses : (n : ℕ) (place : Place) → ((refusal ≡ n) × (1 ≤ n) × PlaceTold place told) ↔ Table n place
  pub accepts : ((refusal ≡ 0) × (told ≡ 0)) ↔ ((n : ℕ) (place : Place) → Table n place → ⊥)

-- "1: window odd, below 2 or above 4,096".
abbrev pub BadWindow : ℕ → Type 0
BadWindow window = ((window % 2 ≡ 1) ⊎ (window < 2)) ⊎ (4096 < window)

-- "4: period 0 or above 2,147,483,647".
abbrev pub BadPeriod : ℕ → Type 0
BadPeriod period = (period ≡ 0) ⊎ (2147483647 < period)

-- "22 phase not below period" (E5).
abbrev pub BadPhase : Source → Type 0
BadPhase source = source.period ≤ source.phase

-- The rows of a run, in every call that has one: "1, 2, 3", and "17, 18 in the order named, in the place of 2" (E1): "last line
-- before the first, last line above the limit"; "16 is .. taken out" (E2). "3: interval 0".
abbrev pub run_table : Run → List Row
run_table run =
    1 given BadWindow run.window ∷
    17 given (run.last < run.first) ∷
    18 given (16777216 < run.last) ∷
    3 given (run.interval ≡ 0) ∷ []
