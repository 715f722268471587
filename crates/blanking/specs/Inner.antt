-- What the inner steps of the blanking call speak of besides the request's words.
use Rattle.std.specs.Prelude.{ℕ, suc, ◌+◌, ◌*◌, ◌/◌, ◌≤◌, ◌<◌, ◌≡◌, Bool, true, false, not, List, ℤ, pos, neg_ℤ, length, get_or, Option, Some, None, ◌≤ℤ◌, ◌<ℤ◌}
use Rattle.scope.specs.declared.Run.{Run}
use Rattle.scope.specs.Run.{ValidRun, cells_of}
use Rattle.blanking.specs.declared.Guard.{Guard}
use Rattle.blanking.specs.declared.Stretch.{Stretch}
use Rattle.blanking.specs.Stretches.{In, MaximalStretches}
use Rattle.blanking.specs.Promise.{written}

-- An offset of a window.
pub record Within (window : ℕ) (offset : ℤ) : Type 0 where
  pub narrow : window ≤ 4096
  pub left : neg_ℤ (pos (window / 2)) ≤ℤ offset
  pub right : offset <ℤ pos (window / 2)

-- What is looked at before the cells are: the run, the threshold, the guard and the map's length are in order.
pub record Guarded (run : Run) (map : List ℕ) (threshold : ℕ) (guard : Guard) : Type 0 where
  pub valid : ValidRun run
  pub some : 1 ≤ threshold
  pub low : Within run.window guard.lowest
  pub high : Within run.window guard.highest
  pub upright : guard.lowest ≤ℤ guard.highest
  pub whole : length map ≡ cells_of run

-- One of these cells is at or above the threshold.
abbrev pub Reaches : List ℕ → ℕ → Type 0
Reaches cells threshold = (k : ℕ) × (k < length cells) × (threshold ≤ get_or cells k 0)

-- A line is so, or is not, as asked.
abbrev pub As : Bool → Type 0 → Type 0
As true So = So
As false So = So → ⊥

-- No line from `line` to before `end` is as asked.
abbrev pub NoneTill : (ℕ → Type 0) → (line : ℕ) → (asked : Bool) → (end : ℕ) → Type 0
NoneTill So line asked end = (j : ℕ) → line ≤ j → j < end → As (not asked) (So j)

-- The first line from `line` to `last` that is as asked: those before it are not; or none is.
abbrev pub NextLine : (last : ℕ) → (ℕ → Type 0) → (line : ℕ) → (asked : Bool) → Option ℕ → Type 0
NextLine last So line asked (Some next) = (line ≤ next) × (next ≤ last) × NoneTill So line asked next × As asked (So next)
NextLine last So line asked None = NoneTill So line asked (suc last)

-- The first stretch that begins at line x or later.
pub record Begins (So : ℕ → Type 0) (x : ℕ) (stretch : Stretch) : Type 0 where
  pub below : x ≤ stretch.first
  pub gap : (j : ℕ) → x ≤ j → j < stretch.first → So j → ⊥
  pub ordered : stretch.first ≤ stretch.last
  pub each : (j : ℕ) → In stretch j → So j
  pub after : So (suc stretch.last) → ⊥

-- The first stretch that begins at `line` or later, and the line from which on the next may begin; or there is none.
abbrev pub NextStretch : (So : ℕ → Type 0) → (line : ℕ) → Option Stretch → (next : ℕ) → Type 0
NextStretch So line (Some stretch) next = Begins So line stretch × (next ≡ stretch.last + 2)
NextStretch So line None next = (j : ℕ) → line ≤ j → So j → ⊥

-- The room holds all of them.
abbrev pub Fits : (ℕ → Type 0) → List ℕ → Type 0
Fits So room = (stretches : List Stretch) → MaximalStretches So stretches → 2 * length stretches ≤ length room

-- They were written.
abbrev pub Writes : (ℕ → Type 0) → List ℕ → List ℕ → Type 0
Writes So room after = (stretches : List Stretch) → MaximalStretches So stretches → after ≡ written stretches room
