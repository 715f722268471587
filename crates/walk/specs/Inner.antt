-- What the inner steps of the walk tell each other. A reader of the promises needs none of this.
use Rattle.std.specs.Prelude.{ℕ, ◌+◌, ◌-◌, ◌*◌, ◌/◌, ◌%◌, ◌^◌, ◌≤◌, ◌<◌, min, ◌≡◌, true, false, pos, neg_ℤ, ◌+ℤ◌, ◌-ℤ◌, ◌≤ℤ◌}
use Rattle.lattice.proofs.First.{Next}
use Rattle.scope.specs.declared.Run.{Run}
use Rattle.scope.specs.declared.Source.{Source}
use Rattle.scope.specs.Run.{ValidRun, ValidSource, cells_of, line_of, offset_of}
use Rattle.scope.specs.Hit.{is_hit}
use Rattle.vectors.specs.declared.Vector.{Vector}
use Rattle.search.specs.Inner.{FirstFrom}
use Rattle.walk.specs.declared.Step.{Step}
use Rattle.walk.specs.declared.LineHit.{LineHit}
use Rattle.walk.specs.declared.Walk.{Walk}

-- A vector that is short enough to be a step: it leads on, and its offset is no more than the window's width.
pub record Short (v : Vector) (window : ℕ) : Type 0 where
  pub wide : window ≤ 4096
  pub few : v.line ≤ 2147483647
  pub rises : 1 ≤ v.line
  pub left : neg_ℤ (pos window) ≤ℤ v.offset
  pub right : v.offset ≤ℤ pos window

-- Two steps whose sums stay far from the ends of the numbers.
pub record Joinable (one other : Step) : Type 0 where
  pub one_low : neg_ℤ (pos 4096) ≤ℤ one.offset
  pub one_high : one.offset ≤ℤ pos 4096
  pub other_low : neg_ℤ (pos 4096) ≤ℤ other.offset
  pub other_high : other.offset ≤ℤ pos 4096
  pub one_cells : one.cells ≤ 2 ^ 44
  pub other_cells : other.cells ≤ 2 ^ 44

-- A walk that goes by the vectors `left` and `right` in a window that begins at A = -I/2 and is `width` wide.
pub record GoesBy (left right : Vector) (window width : ℕ) (walk : Walk) : Type 0 where
  pub left_offset : walk.left.offset ≡ left.offset
  pub left_cells : pos walk.left.cells ≡ pos (left.line * window) +ℤ left.offset
  pub right_offset : walk.right.offset ≡ right.offset
  pub right_cells : pos walk.right.cells ≡ pos (right.line * window) +ℤ right.offset
  pub both_offset : walk.both.offset ≡ left.offset +ℤ right.offset
  pub both_cells : walk.both.cells ≡ walk.left.cells + walk.right.cells
  pub low : walk.low ≡ (pos 0 -ℤ pos (window / 2)) -ℤ left.offset
  pub high : walk.high ≡ (pos width -ℤ pos (window / 2)) -ℤ right.offset

-- A hit and a step whose sums stay far from the ends of the numbers.
pub record Movable (at : LineHit) (step : Step) : Type 0 where
  pub offset_low : neg_ℤ (pos 4096) ≤ℤ at.offset
  pub offset_high : at.offset ≤ℤ pos 4096
  pub step_low : neg_ℤ (pos 8192) ≤ℤ step.offset
  pub step_high : step.offset ≤ℤ pos 8192
  pub cell : at.cell.0 ≤ 2 ^ 45
  pub cells : step.cells ≤ 2 ^ 44

-- `to` is a step on from `at`.
pub record Moved (at : LineHit) (step : Step) (to : LineHit) : Type 0 where
  pub offset : to.offset ≡ at.offset +ℤ step.offset
  pub cell : to.cell.0 ≡ at.cell.0 + step.cells

-- The part of a line that has its first hit: the window, or a period where that is less.
abbrev pub width : Run → Source → ℕ
width run source = min source.period run.window

-- The walk leads from the first hit of each line to the first hit of the next line that has one: `left` moves A to the left
-- in β lines, `right` moves C to the right in δ lines, and from a distance d it goes left, right, or by both.
pub record Leads (run : Run) (source : Source) (walk : Walk) : Type 0 where
  pub A : ℕ
  pub β : ℕ
  pub C : ℕ
  pub δ : ℕ
  pub from : ℕ
  pub below : ℕ
  pub left_offset : walk.left.offset ≡ neg_ℤ (pos A)
  pub left_cells : walk.left.cells + A ≡ β * run.window
  pub right_offset : walk.right.offset ≡ pos C
  pub right_cells : walk.right.cells ≡ δ * run.window + C
  pub both_offset : walk.both.offset ≡ neg_ℤ (pos A) +ℤ pos C
  pub both_cells : walk.both.cells ≡ walk.left.cells + walk.right.cells
  pub low : walk.low ≡ pos from -ℤ pos (run.window / 2)
  pub high : walk.high ≡ pos below -ℤ pos (run.window / 2)
  pub from_short : from ≤ run.window
  pub below_short : below ≤ run.window
  pub left_short : A ≤ run.window
  pub left_few : β ≤ source.period
  pub right_short : C ≤ run.window
  pub right_few : δ ≤ source.period
  pub goes_left : (d : ℕ) → d < width run source → from ≤ d → (A ≤ d) × Next source.period (run.interval % source.period) (width run source) d β (d - A)
  pub goes_right : (d : ℕ) → d < width run source → d < from → d < below → Next source.period (run.interval % source.period) (width run source) d δ (d + C)
  pub goes_both : (d : ℕ) → d < width run source → d < from → below ≤ d → (A ≤ d + C) × Next source.period (run.interval % source.period) (width run source) d (β + δ) (d + C - A)

-- It is the first hit of its line.
pub record Stands (run : Run) (source : Source) (at : LineHit) : Type 0 where
  pub hit : is_hit run source at.cell.0 ≡ true
  pub leftmost : at.cell.0 % run.window < source.period
  pub offset : at.offset ≡ offset_of run at.cell.0

-- A walk of some source over some run, at the first hit of a line of it.
pub record Walking (walk : Walk) (at : LineHit) : Type 0 where
  pub run : Run
  pub source : Source
  pub valid : ValidRun run
  pub source_valid : ValidSource source
  pub leads : Leads run source walk
  pub stands : Stands run source at
  pub inside : at.cell.0 < cells_of run

-- `to` is the first hit of the next line after `at` that has one.
pub record NextLine (run : Run) (source : Source) (at to : LineHit) : Type 0 where
  pub stands : Stands run source to
  pub later : line_of run at.cell.0 < line_of run to.cell.0
  pub rises : at.cell.0 < to.cell.0
  pub none : (z : ℕ) → line_of run at.cell.0 < line_of run z → z < to.cell.0 → is_hit run source z ≡ false

-- The same, for every run and source that the walk is for.
abbrev pub Walks : Walk → LineHit → LineHit → Type 0
Walks walk at to = (run : Run) (source : Source) → ValidRun run → ValidSource source → Leads run source walk → Stands run source at → NextLine run source at to

-- It is the run's first hit; if there is none, its cell is the number of cells, and its offset 0.
pub record Begun (run : Run) (source : Source) (at : LineHit) : Type 0 where
  pub first : FirstFrom run source 0 at.cell.0
  pub stands : at.cell.0 < cells_of run → Stands run source at
  pub none : cells_of run ≤ at.cell.0 → at.offset ≡ pos 0

-- It is on the cell's line, and where the cell is hit it is the first hit there.
pub record Begins (run : Run) (source : Source) (cell : ℕ) (at : LineHit) : Type 0 where
  pub line : at.cell.0 / run.window ≡ cell / run.window
  pub stands : is_hit run source cell ≡ true → Stands run source at
