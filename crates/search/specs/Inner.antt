-- What the inner steps of the search tell each other. A reader of the promises needs none of this.
use Rattle.std.specs.Prelude.{ℕ, ◌+◌, ◌*◌, ◌%◌, ◌≤◌, ◌<◌, max, ◌≡◌, true, false, nat_abs, Option, Some, None}
use Rattle.lattice.proofs.Differences.{Go}
use Rattle.lattice.proofs.First.{First}
use Rattle.scope.specs.declared.Run.{Run}
use Rattle.scope.specs.declared.Source.{Source}
use Rattle.scope.specs.declared.RunCell.{RunCell}
use Rattle.scope.specs.Run.{cells_of}
use Rattle.scope.specs.Hit.{is_hit}
use Rattle.scope.proofs.Hits.{origin}
use Rattle.vectors.specs.declared.Vector.{Vector}
use Rattle.vectors.specs.Inner.{Division}
use Rattle.search.specs.declared.Point.{Point}

-- A point outside the window that u and v can bring nearer, since v's offset is not 0.
pub record Approaching (u v : Vector) (at : Point) (window : ℕ) : Type 0 where
  pub division : Division u v
  pub some : 0 < nat_abs v.offset
  pub outside : window ≤ at.distance
  pub below : at.distance < nat_abs u.offset
  pub low : at.line ≤ 16777216

-- The point `to` is the first from `at` on that is nearer than some bound, which is no less than the window.
pub record Nearer (p r : ℕ) (v : Vector) (window : ℕ) (at to : Point) : Type 0 where
  pub bound : ℕ
  pub lines : ℕ
  pub wide : window ≤ bound
  pub first : First p r bound at.distance lines to.distance
  pub moves : to.line ≡ at.line + lines
  pub below : to.distance < max (nat_abs v.offset) window
  pub nearer : to.distance ≤ at.distance
  pub few : lines ≤ p

-- A point from which the window is sought, up to the last line.
pub record Seeking (u v : Vector) (at : Point) (window last : ℕ) : Type 0 where
  pub division : Division u v
  pub below : at.distance < max (nat_abs u.offset) window
  pub short : last ≤ 16777216

-- The point `to` is the first within the window, and not past the last line.
pub record Enters (p r window last : ℕ) (at to : Point) : Type 0 where
  pub lines : ℕ
  pub first : First p r window at.distance lines to.distance
  pub moves : to.line ≡ at.line + lines
  pub nearer : to.distance ≤ at.distance
  pub inside : to.line ≤ last

-- What a search comes to: the first point within the window, or none up to the last line.
abbrev pub Sought : ℕ → ℕ → ℕ → ℕ → Point → Option Point → Type 0
Sought p r window last at (Some to) = Enters p r window last at to
Sought p r window last at None = (Z f : ℕ) → f < window → Go p r at.distance Z f → last < at.line + Z

-- The point is the source's first right of the window's left edge, on a line of the run or on the one after it.
pub record PointOf (run : Run) (source : Source) (at : Point) : Type 0 where
  pub is : at.distance ≡ (run.interval * at.line + origin run source) % source.period
  pub begun : run.first ≤ at.line
  pub short : at.line ≤ run.last + 1

-- `to` is `here` or whole periods right of it, and the first so at `from` or right of it.
pub record FirstRight (here from period to : ℕ) : Type 0 where
  pub turns : ℕ
  pub is : to ≡ here + turns * period
  pub right : from ≤ to
  pub near : to < from + period

-- The cell y is the first hit not below x, or the number of cells if there is none.
pub record FirstFrom (run : Run) (source : Source) (x y : ℕ) : Type 0 where
  pub from : x ≤ y
  pub to : y ≤ cells_of run
  pub hit : y < cells_of run → is_hit run source y ≡ true
  pub none : (z : ℕ) → x ≤ z → z < y → is_hit run source z ≡ false

-- The first hit not below x, if there is one.
abbrev pub FirstHit : Run → Source → ℕ → Option RunCell → Type 0
FirstHit run source x (Some cell) = (cell.0 < cells_of run) × FirstFrom run source x cell.0
FirstHit run source x None = FirstFrom run source x (cells_of run)
