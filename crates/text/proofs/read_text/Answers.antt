-- `text::read_text` meets its contract: its lines say what the text says, and the first test that this fails is the refusal. Assumes nothing.
use Rattle.std.proofs.Common.{◌≡◌, ltb}
use Rattle.scope.specs.Refusal.{◌when◌, ◌and_then◌, complaint, run_tests}
use Rattle.scope.specs.Inner.{verdict}
use Rattle.scope.specs.declared.Reason.TheVariants.{TooMany}
use Rattle.scope.proofs.Judged.{Passes, fine, blamed}
use Rattle.scope.proofs.Limits.{passes_first}
use Rattle.scope.proofs.Verdicts.{joined}
use Rattle.text.specs.Promise.{most_sources, most_cells}
use Rattle.text.specs.Inner.{AllLines}
use Rattle.text.proofs.Answers.{no_sources, all_read, refuses_form, stops_at_run_or_count, run_valid, few, stops_at_cells, stops_at_source, passes_all}
use Rattle.text.proofs.read_text.Goals as goal
use Rattle.text.proofs.read_text.Goals.{After-and, In_ok-and, In_ok-when}

-- the lines that were read
lines : (c : After-and) → AllLines c.args.text.now c.read_sources.new.input
lines c = all_read c.in-Ok.ensures.0 c.in-Ok.ensures.1 (rw c.new-input.ensures at c.in_default-read_sources.ensures)

-- the verdict on the run and on the number of sources
judged : (c : After-and) → c.and.result ≡ verdict (complaint (run_tests c.read_sources.new.input.run and_then TooMany when ltb most_sources c.read_sources.new.input.count))
judged c = joined _ _ c.judge_run.ensures c.when.ensures c.and.ensures

-- the tests that are passed: of the run and the number of sources, of the number of cells
two_pass : (c : In_ok-and) → Passes (run_tests c.read_sources.new.input.run and_then TooMany when ltb most_sources c.read_sources.new.input.count)
two_pass c = fine (judged (goal.at.In_ok-and c).After-and) c.in_ok-and.was

cells_pass : (c : In_ok-when) → Passes (TooMany when ltb most_cells c.cells.result)
cells_pass c = fine c.when-2.ensures c.in_ok-when.was

pub returns-in-Err : goal.returns-in-Err
returns-in-Err c = let no = c.in-Err.ensures in refuses_form (no_sources c.in-Ok.ensures.1 no.1) no.0 c.alone-in-Err.ensures

pub returns-in_err-and : goal.returns-in_err-and
returns-in_err-and c =
    let at = goal.at.returns-in_err-and c in
    stops_at_run_or_count (lines at.After-and) (blamed (judged at.After-and) c.in_err-and.was) c.from_residual.ensures.1

pub cells-requires : goal.cells-requires
cells-requires c = let at = goal.at.cells-requires c in run_valid (lines at.After-and) (passes_first (two_pass at.In_ok-and))

pub returns-in_err-when : goal.returns-in_err-when
returns-in_err-when c =
    let at = goal.at.returns-in_err-when c in
    stops_at_cells (lines at.After-and) (two_pass at.In_ok-and) c.cells.ensures
    (blamed c.when-2.ensures c.in_err-when.was) c.from_residual-in_err-when.ensures.1

pub sources-requires : goal.sources-requires
sources-requires c = let at = goal.at.sources-requires c in few (lines at.After-and) (two_pass at.In_ok-and)

pub returns-in_err-judge : goal.returns-in_err-judge
returns-in_err-judge c =
    let at = goal.at.returns-in_err-judge c in
    stops_at_source (lines at.After-and) (two_pass at.In_ok-and) c.cells.ensures (cells_pass at.In_ok-when) c.sources.ensures
    (blamed c.judge.ensures c.in_err-judge.was) c.from_residual-in_err-judge.ensures.1

pub returns : goal.returns
returns c =
    let at = goal.at.returns c in
    passes_all (lines at.After-and) (two_pass at.In_ok-and) c.cells.ensures (cells_pass at.In_ok-when) c.sources.ensures
    (fine c.judge.ensures c.in_ok-judge.was)
