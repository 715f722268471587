-- `map::add_blocks` meets its contract. The loop's invariant: the lines before `first` are done. The measure is how many
-- lines are left. Assumes nothing.
use borrow.Rule.Slice.PartMut.{put_mid, mid_len}
use native.Mathlib.Omega.{arith}
use native.Mathlib.Nat.{mul-le-mul_left}
use native.Mathlib.Numerals.{add-one}
use mathlib.Core.Path.{◌≡◌, sym, ap, ◌∙◌, subst}
use mathlib.Core.List.{List}
use Prim.Native.Nat.{ℕ, suc, ◌+◌, ◌-◌, ◌*◌, ◌≤◌, ◌<◌}
use lib.ListN.{length, take, drop}
use Rattle.scope.specs.declared.Run.{Run}
use Rattle.scope.specs.declared.RunCell.{RunCell}
use Rattle.scope.specs.Run.{ValidRun, ceiling, lines_of, cells_of, shift_of}
use Rattle.scope.proofs.Numbering.{IsBlock, shift_next}
use Rattle.sources.specs.declared.Entry.{Entry}
use Rattle.map.specs.declared.Start.{Start}
use Rattle.map.specs.Sum.{raised}
use Rattle.map.specs.Promise.{weight_at, added}
use Rattle.map.specs.Inner.{RaisedFrom, start_of}
use Rattle.map.proofs.Raised.{starts, patch_from, ends_from}
use Rattle.map.proofs.Made.{start_length, start_part}
use Rattle.map.proofs.Entries.{weight_shift}
use Rattle.map.proofs.add_blocks.Goals as goal
use Rattle.map.proofs.add_blocks.Goals.{After-in_run-to}
use Rattle.map.proofs.add_blocks.Invariants.{Blocks}

begins : (run : Run) (sources : List Entry) (start : Start) (old : List ℕ) → ValidRun run → Blocks run sources start old old run.first
begins run sources start old v =
    let none : run.first - run.first ≡ 0 = omega arith in
    record { from = omega arith; to = omega arith; cells = 0; cells_are = rw none (omega arith); done = starts ceiling _ old 0 }

-- a block's cells end within the run
block_room : {run block : Run} → IsBlock run block → block.first ≤ block.last → cells_of block + shift_of run block ≤ cells_of run
unfolding shift_of cells_of lines_of
block_room {run} {block} b some =
    let lines : (block.first - run.first) + (suc block.last - block.first) ≤ suc run.last - run.first = omega arith in
    rw b.window (omega (arith, mul-le-mul_left run.window lines))

-- where a block's part of the map starts and ends
record Part (run block : Run) (first cells from to : ℕ) : Type 0 where
  is : IsBlock run block
  at : block.first ≡ first
  some : first ≤ block.last
  cells_are : cells ≡ cells_of block
  from_is : from ≡ 0 + shift_of run block
  to_is : to ≡ cells + shift_of run block

module _ {run : Run} {sources : List Entry} {start : Start} {old map : List ℕ} {first : ℕ} (so_far : Blocks run sources start old map first) (v : ValidRun run) (whole : length old ≡ cells_of run) where
  part_ends : {block : Run} {cells from to : ℕ} → Part run block first cells from to → to ≤ length map
  part_ends p = let l = so_far.done.as_long in omega (arith, block_room p.is (omega arith))

  part_cells : {block : Run} {cells from to : ℕ} → Part run block first cells from to → length (take (to - from) (drop from map)) ≡ cells_of block
  part_cells {block} {cells} {from} {to} p = mid_len from to map (part_ends p) ∙ omega arith

  -- the sources are added to what the block's part of the map starts from
  next : {block : Run} {cells from to : ℕ} {part : List ℕ} → Part run block first cells from to → part ≡ added ceiling block sources (start_of start (take (to - from) (drop from map))) → Blocks run sources start old (put_mid from (to - from) map part) (block.last + 1)
  unfolding shift_of added
  next {block} {cells} {from} {to} {part} p put =
      let b = p.is in
      let on : Run = record { window = run.window; interval = run.interval; first = block.last + 1; last = run.last } in
      let here : so_far.cells ≡ from = so_far.cells_are ∙ ap (λ n. (n - run.first) * run.window) (sym p.at) ∙ omega arith in
      let there : (block.last + 1 - run.first) * run.window ≡ shift_of run block + cells_of block = shift_next b on (omega arith) (add-one block.last) in
      let so : RaisedFrom ceiling (weight_at run sources) (start_of start old) old 0 from map = rw here at so_far.done in
      let room = part_ends p in
      let l = so_far.done.as_long in
      let moved : from ≡ shift_of run block = omega arith in
      let started : part ≡ raised ceiling (weight_at block sources) 0 (take (to - from) (drop from (start_of start old))) = put ∙ ap (raised ceiling (weight_at block sources) 0) (start_part start (to - from) so (omega arith)) in
      record {
        from = omega arith;
        to = omega arith;
        cells = to;
        cells_are = omega arith;
        done = patch_from so (weight_at block sources) {k = to - from} (start_length start old) (omega arith) (omega arith) started (λ i h. rw moved (weight_shift v b sources i));
      }

  -- past the last line
  all : run.last < first → map ≡ added ceiling run sources (start_of start old)
  unfolding added cells_of lines_of
  all h =
      let lines : first ≡ suc run.last = omega arith in
      let end = ap (λ n. (n - run.first) * run.window) lines in
      ends_from so_far.done (start_length start old) (omega (arith, so_far.cells_are))

-- the part of the map that is lent, once its end is known
lent : (c : After-in_run-to) → Part c.args.run c.block_from-block.result c.loop-first.first c.cells.result c.in_run-from.result.0 c.in_run-to.result.0
lent c =
    let b = c.block_from-block.ensures in
    record {
      is = b.0;
      at = b.1;
      some = b.2;
      cells_are = c.cells.ensures;
      from_is = ap (λ (cell : RunCell). cell.0) c.in_run-from.ensures;
      to_is = ap (λ (cell : RunCell). cell.0) c.in_run-to.ensures;
    }

pub loop-first-init : goal.loop-first-init
loop-first-init c = begins _ _ _ _ c.requires.0.valid

pub slice_bounds-part-end : goal.slice_bounds-part-end
slice_bounds-part-end c = part_ends c.loop-first.invariant c.requires.0.valid c.requires.0.whole (lent c)

pub loop-first-preserved : goal.loop-first-preserved
loop-first-preserved c =
    let p = c.requires in
    let b = c.block_from-block.ensures in
    let done = next c.loop-first.invariant p.0.valid p.0.whole (lent (goal.at.loop-first-preserved c).After-in_run-to) c.add_below.ensures in
    subst (Blocks _ _ _ _ _) (omega arith) done

pub returns : goal.returns
returns c = all c.loop-first.invariant c.requires.0.valid c.requires.0.whole (omega arith)

pub returns-2 : goal.returns-2
returns-2 c =
    let p = c.requires in
    let b = c.block_from-block.ensures in
    all (next c.loop-first.invariant p.0.valid p.0.whole (lent (goal.at.returns-2 c).After-in_run-to) c.add_below.ensures) p.0.valid p.0.whole (omega arith)
