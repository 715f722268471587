-- `saved::judge_file` meets its contract: each refusal is the first test that fails; with none, the run is the one that block 0 tells. Assumes nothing.
use Prim.Native.Nat.{ℕ, ◌%◌, ◌≤◌, ◌<◌}
use native.Mathlib.Omega.{arith}
use mathlib.Core.Path.{◌≡◌, ap, ◌∙◌}
use mathlib.Core.Bool.{not}
use mathlib.Core.List.{List}
use borrow.Author.Tests.{eq-eqb, ne_eqb}
use lib.Dec.{eqb}
use lib.ListN.{length}
use Rattle.scope.specs.Run.{ValidRun}
use Rattle.scope.specs.Refusal.{Tests, ◌when◌, ◌and_then◌, complaint, run_tests}
use Rattle.scope.specs.declared.Reason.TheVariants.{FileBlocks}
use Rattle.scope.specs.Reply.{answered}
use Rattle.scope.specs.Inner.{verdict}
use Rattle.scope.proofs.Judged.{Passes, broken, sound, refuse_reply, first, then, both, fine, blamed, grant_reply}
use Rattle.scope.proofs.Limits.{valid_run, cells_few}
use Rattle.scope.proofs.Differs.{same}
use Rattle.fileblocks.specs.FileBlock.{file_block_bytes}
use Rattle.saved.specs.File.{file_blocks_for, file_length, bytes_for, file_block_at, run_of, heading_tests, later_file_blocks_tests, file_tests}
use Rattle.saved.proofs.Cells.{cell_bytes}
use Rattle.saved.proofs.Promises.{stopped}
use Rattle.saved.proofs.judge_file.Goals as goal
use Rattle.saved.proofs.judge_file.Goals.{After-judge_heading, After-judge_run, After-when-2, After-judge_cells, In-Some, In_ok-when, In_ok-judge_heading, In_ok-judge_run, In_ok-when-2}

-- the tests of the length, and those up to those of block 0, of the run, of the count
abbrev to_length : List ℕ → Tests
to_length file = FileBlocks when not (eqb (length file % file_block_bytes) 0) and_then FileBlocks when eqb (length file) 0

abbrev to_heading : List ℕ → Tests
to_heading file = to_length file and_then heading_tests (file_block_at file 0)

abbrev to_run : List ℕ → Tests
to_run file = to_heading file and_then run_tests (run_of file)

abbrev to_count : List ℕ → Tests
to_count file = to_run file and_then FileBlocks when not (eqb (length file) (file_length (bytes_for (run_of file))))

whole : (c : In_ok-when) → Passes (FileBlocks when not (eqb (length c.args.file.now % file_block_bytes) 0))
whole c = fine c.when.ensures c.in_ok-when.was

-- the file has a block: block 0 is there
some : (c : In-Some) → Passes (to_length c.args.file.now)
some c =
    let long : file_block_bytes ≤ length c.args.file.now = c.in-Some.ensures.cases.enough in
    both (whole (goal.at.In-Some c).In_ok-when) (sound (ne_eqb (length c.args.file.now) 0 (λ e. omega arith)))

-- what was found of block 0
heading_judged : (c : After-judge_heading) → c.judge_heading.result ≡ verdict (complaint (heading_tests (file_block_at c.args.file.now 0)))
unfolding file_block_at
heading_judged c = rw c.in-Some.ensures.cases.same at c.judge_heading.ensures

headed : (c : In_ok-judge_heading) → Passes (to_heading c.args.file.now)
headed c =
    both (some (goal.at.In_ok-judge_heading c).In-Some) (fine (heading_judged (goal.at.In_ok-judge_heading c).After-judge_heading) c.in_ok-judge_heading.was)

-- what was found of the run
run_judged : (c : After-judge_run) → c.judge_run.result ≡ verdict (complaint (run_tests (run_of c.args.file.now)))
run_judged c = rw c.run_of-run.ensures at c.judge_run.ensures

limited : (c : In_ok-judge_run) → Passes (to_run c.args.file.now)
limited c = both (headed (goal.at.In_ok-judge_run c).In_ok-judge_heading) (fine (run_judged (goal.at.In_ok-judge_run c).After-judge_run) c.in_ok-judge_run.was)

valid : (c : In_ok-judge_run) → ValidRun c.run_of-run.result
valid c = valid_run (fine c.judge_run.ensures c.in_ok-judge_run.was) (omega (arith, c.run_of-run.type_inv))

-- what was found of the count
count_judged : (c : After-when-2) → let file = c.args.file.now in c.when-2.result ≡ verdict (complaint (FileBlocks when not (eqb (length file) (file_length (bytes_for (run_of file))))))
count_judged c = rw (c.file_length.ensures, c.bytes_for-size.ensures, c.run_of-run.ensures) at c.when-2.ensures

counted : (c : In_ok-when-2) → Passes (to_count c.args.file.now)
counted c = both (limited (goal.at.In_ok-when-2 c).In_ok-judge_run) (fine (count_judged (goal.at.In_ok-when-2 c).After-when-2) c.in_ok-when-2.was)

-- what was found of the blocks after block 0
cells_judged : (c : After-judge_cells) → let file = c.args.file.now in c.judge_cells.result ≡ verdict (complaint (later_file_blocks_tests (bytes_for (run_of file)) file (file_blocks_for (bytes_for (run_of file)))))
cells_judged c = rw (c.bytes_for-size.ensures, c.run_of-run.ensures) at c.judge_cells.ensures

pub returns-in_err-when : goal.returns-in_err-when
unfolding file_tests
returns-in_err-when c = stopped _ _ (first (first (first (first (first (blamed c.when.ensures c.in_err-when.was)))))) c.from_residual.ensures.1

pub returns-in_default : goal.returns-in_default
unfolding file_tests
returns-in_default c =
    let passes = whole (goal.at.returns-in_default c).In_ok-when in
    let blocks : length c.args.file.now % file_block_bytes ≡ 0 = same _ _ passes in
    let short : length c.args.file.now < file_block_bytes = c.in_default.ensures.cases in
    rw c.alone.ensures (refuse_reply _ (first (first (first (first (then passes (broken (eq-eqb (length c.args.file.now) 0 (omega arith)))))))))

pub returns-in_err-judge_heading : goal.returns-in_err-judge_heading
unfolding file_tests
returns-in_err-judge_heading c =
    stopped _ _
    (first (first (first (then (some (goal.at.returns-in_err-judge_heading c).In-Some) (blamed (heading_judged (goal.at.returns-in_err-judge_heading c).After-judge_heading) c.in_err-judge_heading.was)))))
    c.from_residual-in_err-judge_heading.ensures.1

pub run_of-run-requires : goal.run_of-run-requires
run_of-run-requires c = let long : file_block_bytes ≤ length c.args.file.now = c.in-Some.ensures.cases.enough in omega arith

pub returns-in_err-judge_run : goal.returns-in_err-judge_run
unfolding file_tests
returns-in_err-judge_run c =
    stopped _ _
    (first (first (then (headed (goal.at.returns-in_err-judge_run c).In_ok-judge_heading) (blamed (run_judged (goal.at.returns-in_err-judge_run c).After-judge_run) c.in_err-judge_run.was))))
    c.from_residual-in_err-judge_run.ensures.1

pub bytes_for-size-requires : goal.bytes_for-size-requires
bytes_for-size-requires c = valid (goal.at.bytes_for-size-requires c).In_ok-judge_run

pub file_length-requires : goal.file_length-requires
file_length-requires c = let few = cells_few (valid (goal.at.file_length-requires c).In_ok-judge_run) in let e = c.bytes_for-size.ensures ∙ cell_bytes _ in omega arith

pub returns-in_err-when-2 : goal.returns-in_err-when-2
unfolding file_tests
returns-in_err-when-2 c =
    stopped _ _
    (first (then (limited (goal.at.returns-in_err-when-2 c).In_ok-judge_run) (blamed (count_judged (goal.at.returns-in_err-when-2 c).After-when-2) c.in_err-when-2.was)))
    c.from_residual-in_err-when-2.ensures.1

pub judge_cells-requires : goal.judge_cells-requires
judge_cells-requires c =
    let few = cells_few (valid (goal.at.judge_cells-requires c).In_ok-judge_run) in
    let e = c.bytes_for-size.ensures ∙ cell_bytes _ in
    (omega arith, same _ _ (fine c.when-2.ensures c.in_ok-when-2.was) ∙ c.file_length.ensures)

pub returns-in_err-judge_cells : goal.returns-in_err-judge_cells
unfolding file_tests
returns-in_err-judge_cells c =
    stopped _ _
    (then (counted (goal.at.returns-in_err-judge_cells c).In_ok-when-2) (blamed (cells_judged (goal.at.returns-in_err-judge_cells c).After-judge_cells) c.in_err-judge_cells.was))
    c.from_residual-in_err-judge_cells.ensures.1

pub returns : goal.returns
unfolding file_tests
returns c = ap answered c.run_of-run.ensures ∙ grant_reply _ (both (counted (goal.at.returns c).In_ok-when-2) (fine (cells_judged (goal.at.returns c).After-judge_cells) c.in_ok-judge_cells.was))
