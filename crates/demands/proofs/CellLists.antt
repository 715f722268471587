-- Lists of numbers and lists of cells: what holds of one holds of the other. Assumes nothing.
use Prim.Native.Nat.{ℕ, ◌+◌}
use mathlib.Core.Path.{◌≡◌, sym, subst, ◌∙◌}
use mathlib.Core.Logic.{◌↔◌}
use mathlib.Core.List.Memᴰ
use mathlib.Core.List.{List, map, map-map, map-id, Memᴰ}
use Rattle.scope.specs.declared.Run.{Run}
use Rattle.scope.specs.declared.RunCell.{RunCell}
use Rattle.scope.specs.Run.{shift_of, to_run}
use Rattle.demands.specs.Listing.{block_cells, run_cells}

-- the numbers of cells of the run
abbrev pub numbers_of : List RunCell → List ℕ
numbers_of cells = map (λ (cell : RunCell). cell.0) cells

-- a block's numbers, turned into the run's
pub turned : (run block : Run) (numbers : List ℕ) → map (to_run run block) (block_cells numbers) ≡ run_cells (map (λ x. x + shift_of run block) numbers)
turned run block numbers = map-map (to_run run block) (λ x. record { 0 = x }) numbers ∙ sym (map-map (λ x. record { 0 = x }) (λ x. x + shift_of run block) numbers)

-- there and back
pub numbered : (cells : List RunCell) → run_cells (numbers_of cells) ≡ cells
numbered cells = map-map (λ x. record { 0 = x }) (λ (cell : RunCell). cell.0) cells ∙ map-id cells

renumbered : (numbers : List ℕ) → numbers_of (run_cells numbers) ≡ numbers
renumbered numbers = map-map (λ (cell : RunCell). cell.0) (λ x. record { 0 = x }) numbers ∙ map-id numbers

-- what is in one list is in the other
pub cell_member : (y : RunCell) (numbers : List ℕ) → Memᴰ y (run_cells numbers) ↔ Memᴰ y.0 numbers
cell_member y numbers = (λ m. subst (Memᴰ y.0) (renumbered numbers) (Memᴰ.map (λ (cell : RunCell). cell.0) m), Memᴰ.map (λ x. record { 0 = x }))

pub number_member : (y : ℕ) (cells : List RunCell) → Memᴰ y (numbers_of cells) ↔ Memᴰ (record { 0 = y }) cells
number_member y cells = (λ m. subst (Memᴰ (record { 0 = y })) (numbered cells) (Memᴰ.map (λ x. record { 0 = x }) m), Memᴰ.map (λ (cell : RunCell). cell.0))
