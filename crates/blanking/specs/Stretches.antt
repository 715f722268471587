-- Request E3, "Blanking list": which lines are blanked, and the maximal stretches of them.
use Rattle.std.specs.Prelude.{ℕ, suc, ◌≤◌, ◌<◌, ◌≡◌, ◌⊎◌, List, [], ◌∷◌, get_or, ◌≤ℤ◌}
use Rattle.scope.specs.declared.Run.{Run}
use Rattle.scope.specs.Run.{cells_of, line_of, offset_of}
use Rattle.blanking.specs.declared.Guard.{Guard}
use Rattle.blanking.specs.declared.Stretch.{Stretch}

-- "a guard part of the window (lowest and highest offset)": the cell with number x is a guard cell of line j. Both offsets belong to
-- the guard.
pub record GuardCell (run : Run) (guard : Guard) (j x : ℕ) : Type 0 where
  pub inside : x < cells_of run
  pub on : line_of run x ≡ j
  pub from : guard.lowest ≤ℤ offset_of run x
  pub to : offset_of run x ≤ℤ guard.highest

-- "lines that each have a guard cell at or above the threshold": line j has one. Such a line is blanked.
pub record Blanked (run : Run) (map : List ℕ) (threshold : ℕ) (guard : Guard) (j : ℕ) : Type 0 where
  pub cell : ℕ
  pub guarded : GuardCell run guard j cell
  pub reaches : threshold ≤ get_or map cell 0

-- "first and last line": line j is one of a stretch of consecutive lines. Both belong to it.
abbrev pub In : Stretch → ℕ → Type 0
In stretch j = (stretch.first ≤ j) × (j ≤ stretch.last)

-- "maximal stretches of consecutive lines that each" are so: it has a line, each of its lines is so, and neither the line just before
-- it nor the one just after it is. (Before line 0 there is none; a line outside the run has no cell, so that a stretch ends with its run.)
pub record Maximal (So : ℕ → Type 0) (stretch : Stretch) : Type 0 where
  pub ordered : stretch.first ≤ stretch.last
  pub each : (j : ℕ) → In stretch j → So j
  pub before : (j : ℕ) → suc j ≡ stretch.first → So j → ⊥
  pub after : So (suc stretch.last) → ⊥

-- Every stretch of a list is maximal.
abbrev pub AllMaximal : (ℕ → Type 0) → List Stretch → Type 0
AllMaximal So [] = Unit {0}
AllMaximal So (stretch ∷ stretches) = Maximal So stretch × AllMaximal So stretches

-- "rising": each stretch of a list ends before the next begins, and a line lies between the two: they do not touch.
abbrev pub Rising : List Stretch → Type 0
Rising [] = Unit {0}
Rising (stretch ∷ []) = Unit {0}
Rising (stretch ∷ next ∷ stretches) = (suc stretch.last < next.first) × Rising (next ∷ stretches)

-- Line j is in one of the stretches of a list.
abbrev pub InOne : List Stretch → ℕ → Type 0
InOne [] j = ⊥
InOne (stretch ∷ stretches) j = In stretch j ⊎ InOne stretches j

-- "the maximal stretches of consecutive lines that each" are so, "rising": the list has them all, and nothing besides.
pub record MaximalStretches (So : ℕ → Type 0) (stretches : List Stretch) : Type 0 where
  pub maximal : AllMaximal So stretches
  pub every : (j : ℕ) → So j → InOne stretches j
  pub rising : Rising stretches
