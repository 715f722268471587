-- The lines of the cells above 0, written and counted cell by cell. Assumes nothing.
use Prim.Native.Nat.{ℕ, ◌+◌, ◌≤◌, ◌<◌}
use native.Mathlib.Omega.{arith}
use native.Mathlib.Numerals.{add-one}
use mathlib.Core.Path.{◌≡◌, refl}
use mathlib.Core.Bool.{Bool, true, false, not, cond}
use mathlib.Core.List.{List, [], ◌∷◌, ◌++◌}
use lib.ListN.{length, drop, get_or, drop_of_length-le}
use lib.Seq.{drop-cons}
use borrow.Author.Tests.{eq-eqb, ne_eqb}
use lib.Dec.{eqb}
use Rattle.std.proofs.Common.{count_by, zero-add}
use Rattle.std.proofs.lemmas.List.Recursion.{is_count_by}
use Rattle.decimal.specs.declared.Page.{Page}
use Rattle.decimal.specs.Inner.{Fits, Writes}
use Rattle.decimal.proofs.Pages.{writes_none}
use Rattle.words.specs.Line.{line}
use Rattle.report.specs.Report.{map_word, cell_report, map_report, above}

-- ---- a cell

pub cell_none : (x value : ℕ) → value ≡ 0 → cell_report x value ≡ []
unfolding cell_report
cell_none x value e = rw (eq-eqb value 0 e)

pub cell_line : (x value : ℕ) → (value ≡ 0 → ⊥) → cell_report x value ≡ line map_word (x ∷ value ∷ [])
unfolding cell_report
cell_line x value ne = rw (ne_eqb value 0 ne)

pub none_written : (page : Page) (x value : ℕ) → value ≡ 0 → Fits page (cell_report x value) → Writes page (cell_report x value) page
none_written page x value e h =
    let none = cell_none x value e in
    let start : page.at ≤ length page.room.now = omega arith in
    rw none (writes_none page start)

-- ---- the cells from number x on

-- the cell there, and those after it
pub from_cell : (map : List ℕ) (x : ℕ) → x < length map → map_report x (drop x map) ≡ cell_report x (get_or map x 0) ++ map_report (x + 1) (drop (x + 1) map)
unfolding map_report
from_cell map x h = rw (drop-cons map x 0 h, add-one)

pub no_cell : (map : List ℕ) (x : ℕ) → length map ≤ x → map_report x (drop x map) ≡ []
unfolding map_report
no_cell map x h = rw (drop_of_length-le map h)

-- ---- their number

-- `above` counts as std does
pub above_count : (cells : List ℕ) → above cells ≡ count_by (λ value. not (eqb value 0)) cells
unfolding above
above_count = is_count_by above (λ value. not (eqb value 0)) refl (λ value cells. step (eqb value 0) (above cells))
  where
    step : (zero : Bool) (n : ℕ) → cond zero 0 1 + n ≡ cond (not zero) (1 + n) n
    step true n = zero-add n
    step false n = refl
