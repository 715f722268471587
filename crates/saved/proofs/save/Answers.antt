-- `saved::save` meets its contract: each refusal is the first test that fails; with none, the room is written whole, block 0 first. Assumes nothing.
use Prim.Native.Nat.{ℕ, ◌-◌, ◌*◌, ◌<◌}
use native.Mathlib.Nat.{le_refl}
use mathlib.Core.Bool.{not}
use mathlib.Core.List.{List}
use native.Mathlib.Omega.{arith}
use mathlib.Core.Path.{◌≡◌, sym, ap, ◌∙◌}
use lib.Dec.{eqb}
use lib.ListN.{length, length-take}
use borrow.Rule.Slice.PartMut.{put_mid, mid_of, mid_len}
use Rattle.scope.specs.declared.Run.{Run}
use Rattle.scope.specs.Run.{ValidRun, cells_of}
use Rattle.scope.specs.Refusal.{◌when◌, complaint, run_tests}
use Rattle.scope.specs.declared.Reason.TheVariants.{Room}
use Rattle.scope.specs.Inner.{verdict}
use Rattle.scope.proofs.Judged.{Passes, first, then, both, fine, blamed}
use Rattle.scope.proofs.Limits.{valid_run, cells_few}
use Rattle.scope.proofs.Differs.{same}
use Rattle.fileblocks.specs.FileBlock.{file_block_bytes, file_block_of}
use Rattle.saved.specs.File.{heading, later_file_blocks, file_blocks_for, file_length, bytes_for, file_of, saving_tests}
use Rattle.saved.specs.Inner.{many_bytes}
use Rattle.rooms.specs.Inner.{Written}
use Rattle.rooms.proofs.Written.{written_none, written_part, written_length, written_all}
use Rattle.fileblocks.proofs.FileBlock.{length_file_block_of}
use Rattle.saved.proofs.Cells.{cell_bytes, length_later_file_blocks}
use Rattle.saved.proofs.Promises.{stopped_saving, grant_saving}
use Rattle.saved.proofs.save.Goals as goal
use Rattle.saved.proofs.save.Goals.{After-when, After-when-2, In_ok-judge_run, In_ok-when-2}

-- the run is within the limits, and so its cells are few
passes : (c : In_ok-judge_run) → Passes (run_tests c.args.run)
passes c = fine c.judge_run.ensures c.in_ok-judge_run.was

valid : (c : In_ok-judge_run) → ValidRun c.args.run
valid c = valid_run (passes c) (omega (arith, c.well_formed.0))

-- what was found of the map's length and of the room's
map_judged : (c : After-when) → c.when.result ≡ verdict (complaint (Room when not (eqb (length c.args.map.now) (cells_of c.args.run))))
map_judged c = rw c.cells-cells.ensures at c.when.ensures

room_judged : (c : After-when-2) → c.when-2.result ≡ verdict (complaint (Room when not (eqb (length c.args.file.now) (file_length (bytes_for c.args.run)))))
room_judged c = rw (c.file_length.ensures, c.bytes_for-size.ensures) at c.when-2.ensures

-- every test is passed
record Admitted (run : Run) (map file : List ℕ) : Type 0 where
  few : length map < many_bytes
  cells : length map ≡ cells_of run
  long : length file ≡ file_length (length map)

admitted : (c : In_ok-when-2) → Admitted c.args.run c.args.map.now c.args.file.now
admitted c =
    let cells = same _ _ (fine c.when.ensures c.in_ok-when.was) ∙ c.cells-cells.ensures in
    let few = cells_few (valid (goal.at.In_ok-when-2 c).In_ok-judge_run) in
    let size = c.bytes_for-size.ensures ∙ cell_bytes _ ∙ sym cells in
    record { few = omega arith; cells = cells; long = same _ _ (fine c.when-2.ensures c.in_ok-when-2.was) ∙ c.file_length.ensures ∙ ap file_length size }

module _ {run : Run} {map file part : List ℕ} (s : Admitted run map file) (head : part ≡ file_block_of 0 (heading run)) where
  -- block 0 is written
  headed : Written file 0 part file_block_bytes (put_mid 0 file_block_bytes file part)
  unfolding file_length
  headed = let l = s.long in written_part (written_none file 0 (omega arith)) file_block_bytes part (omega arith) (omega arith) (ap length head ∙ length_file_block_of 0 (heading run))

  -- the room then
  abbrev after : List ℕ
  after = put_mid 0 file_block_bytes file part

  as_long : length after ≡ length file
  as_long = written_length headed

  -- the rest of it is for the cells
  rest_length : length (mid_of file_block_bytes (length after - file_block_bytes) after) ≡ file_block_bytes * file_blocks_for (length map)
  unfolding file_length
  rest_length = let l = s.long in let a = as_long in mid_len file_block_bytes (length after) after (le_refl (length after)) ∙ omega arith

  -- the whole room is written
  whole : {rest : List ℕ} → rest ≡ later_file_blocks map (file_blocks_for (length map)) → put_mid file_block_bytes (length after - file_block_bytes) after rest ≡ file_of run map
  unfolding file_length bytes_for file_of
  whole {rest} f =
      let l = s.long in
      let a = as_long in
      let many : length rest ≡ length after - file_block_bytes = ap length f ∙ length_later_file_blocks map (file_blocks_for (length map)) ∙ omega arith in
      written_all (written_part headed (length after) rest (omega arith) (omega arith) many) a ∙ rw (head, f, s.cells)

pub returns-in_err-judge_run : goal.returns-in_err-judge_run
unfolding saving_tests
returns-in_err-judge_run c = stopped_saving (first (first (blamed c.judge_run.ensures c.in_err-judge_run.was))) c.from_residual.ensures.1

pub cells-cells-requires : goal.cells-cells-requires
cells-cells-requires c = valid (goal.at.cells-cells-requires c).In_ok-judge_run

pub returns-in_err-when : goal.returns-in_err-when
unfolding saving_tests
returns-in_err-when c =
    stopped_saving
    (first (then (passes (goal.at.returns-in_err-when c).In_ok-judge_run) (blamed (map_judged (goal.at.returns-in_err-when c).After-when) c.in_err-when.was)))
    c.from_residual-in_err-when.ensures.1

pub bytes_for-size-requires : goal.bytes_for-size-requires
bytes_for-size-requires c = valid (goal.at.bytes_for-size-requires c).In_ok-judge_run

pub file_length-requires : goal.file_length-requires
file_length-requires c = let few = cells_few (valid (goal.at.file_length-requires c).In_ok-judge_run) in let e = c.bytes_for-size.ensures ∙ cell_bytes _ in omega arith

pub returns-in_err-when-2 : goal.returns-in_err-when-2
unfolding saving_tests
returns-in_err-when-2 c =
    stopped_saving
    (then
    (both (passes (goal.at.returns-in_err-when-2 c).In_ok-judge_run) (fine (map_judged (goal.at.returns-in_err-when-2 c).After-when) c.in_ok-when.was))
    (blamed (room_judged (goal.at.returns-in_err-when-2 c).After-when-2) c.in_err-when-2.was))
    c.from_residual-in_err-when-2.ensures.1

pub slice_bounds-write_heading-end : goal.slice_bounds-write_heading-end
unfolding file_length
slice_bounds-write_heading-end c = let s = admitted (goal.at.slice_bounds-write_heading-end c).In_ok-when-2 in let l = s.long in omega arith

pub slice_bounds-write_heading-end-2 : goal.slice_bounds-write_heading-end-2
unfolding file_length
slice_bounds-write_heading-end-2 c = let s = admitted (goal.at.slice_bounds-write_heading-end-2 c).In_ok-when-2 in let l = s.long in simp length-take (omega arith)

pub write_heading-requires : goal.write_heading-requires
unfolding file_length
write_heading-requires c = let s = admitted (goal.at.write_heading-requires c).In_ok-when-2 in let l = s.long in simp length-take (omega arith)

pub slice_bounds-write_cells-count : goal.slice_bounds-write_cells-count
unfolding file_length
slice_bounds-write_cells-count c =
    let s = admitted (goal.at.slice_bounds-write_cells-count c).In_ok-when-2 in
    omega (arith, as_long s c.write_heading.ensures, s.long)

pub slice_bounds-write_cells-start : goal.slice_bounds-write_cells-start
unfolding file_length
slice_bounds-write_cells-start c =
    let s = admitted (goal.at.slice_bounds-write_cells-start c).In_ok-when-2 in
    omega (arith, as_long s c.write_heading.ensures, s.long)

pub write_cells-requires : goal.write_cells-requires
write_cells-requires c =
    let s = admitted (goal.at.write_cells-requires c).In_ok-when-2 in
    (s.few, rest_length s c.write_heading.ensures)

pub returns : goal.returns
unfolding saving_tests
returns c =
    grant_saving
    (both
    (both (passes (goal.at.returns c).In_ok-judge_run) (fine (map_judged (goal.at.returns c).After-when) c.in_ok-when.was))
    (fine (room_judged (goal.at.returns c).After-when-2) c.in_ok-when-2.was))
    (whole (admitted (goal.at.returns c).In_ok-when-2) c.write_heading.ensures c.write_cells.ensures)
