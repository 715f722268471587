-- Document 01, "The measurement in numbers", and request E5: a run, its lines and its cells; what is within the limits.
use Rattle.std.specs.Prelude.{ℕ, suc, ◌+◌, ◌-◌, ◌*◌, ◌/◌, ◌%◌, ◌≤◌, ◌<◌, ◌≡◌, ◌⊎◌, ℤ, pos, neg_ℤ, ◌+ℤ◌, ◌-ℤ◌, ◌*ℤ◌, ◌≤ℤ◌, ◌<ℤ◌}
pub use Rattle.rooms.specs.Lists.{UpTo}
use Rattle.scope.specs.declared.Run.{Run}
use Rattle.scope.specs.declared.Source.{Source}
use Rattle.scope.specs.declared.RunCell.{RunCell}
use Rattle.scope.specs.declared.BlockCell.{BlockCell}

-- "run I T first last": the run with these four numbers.
abbrev pub run_with : (window interval first last : ℕ) → Run
run_with window interval first last = record { window = window; interval = interval; first = first; last = last }

-- The table of ranges: "window I: even, 2 to 4,096; interval T: 1 to 4,294,967,295; lines: .. last ≥ first, last ≤ 16,777,216", and
-- "Lines run from 0" (E2): of the first line nothing else is asked.
pub record ValidRun (run : Run) : Type 0 where
  pub even : run.window % 2 ≡ 0
  pub narrow : 2 ≤ run.window
  pub wide : run.window ≤ 4096
  pub ordered : run.first ≤ run.last
  pub ends : run.last ≤ 16777216
  pub ticks : 1 ≤ run.interval
  pub fits : run.interval ≤ 4294967295

-- The same table: "period p: 1 to 2,147,483,647"; and "its phase s, below its period" (E5).
pub record ValidSource (source : Source) : Type 0 where
  pub ticks : 1 ≤ source.period
  pub fits : source.period ≤ 2147483647
  pub phased : source.phase < source.period

-- The same table: "weight: 1 to 255"; and "the smaller of 255 and old value + weights". No weight and no cell of a map is above it.
abbrev pub ceiling : ℕ
ceiling = 255

-- "a first line and a last line": both belong to the run.
unfoldable pub lines_of : Run → ℕ
lines_of run = suc run.last - run.first

-- "from 0 to I·(number of lines) - 1": how many cells there are.
unfoldable pub cells_of : Run → ℕ
cells_of run = run.window * lines_of run

-- "Offsets run from minus half the window up to half the window less one: -I/2 ≤ i < I/2", and line j is one of the run's.
pub record InRun (run : Run) (i : ℤ) (j : ℕ) : Type 0 where
  pub left : neg_ℤ (pos (run.window / 2)) ≤ℤ i
  pub right : i <ℤ pos (run.window / 2)
  pub from : run.first ≤ j
  pub to : j ≤ run.last

-- "Cell number: x = (j - first line)·I + i + I/2", of the offset i and the line j.
unfoldable pub cell_of : Run → ℤ → ℕ → ℤ
cell_of run i j = ((pos j -ℤ pos run.first) *ℤ pos run.window) +ℤ i +ℤ pos (run.window / 2)

-- The line of the cell with number x: the other way round ("rising x is line order, then offset order").
unfoldable pub line_of : Run → ℕ → ℕ
line_of run x = run.first + x / run.window

-- The offset of the cell with number x.
unfoldable pub offset_of : Run → ℕ → ℤ
offset_of run x = pos (x % run.window) -ℤ pos (run.window / 2)

-- "Rising x is line order, then offset order": cell x comes before cell y, by line and then by offset.
abbrev pub Before : Run → ℕ → ℕ → Type 0
Before run x y = (line_of run x < line_of run y) ⊎ ((line_of run x ≡ line_of run y) × (offset_of run x <ℤ offset_of run y))

-- "(block's first line - run's first line)·I": what turns a block's cell number into the run's.
unfoldable pub shift_of : Run → Run → ℕ
shift_of run block = (block.first - run.first) * run.window

-- "one becomes the other only by adding .. (block's first line - run's first line)·I": a block's cell as the run's.
abbrev pub to_run : Run → Run → BlockCell → RunCell
to_run run block cell = record { 0 = cell.0 + shift_of run block }
