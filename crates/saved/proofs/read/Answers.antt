-- `saved::read` meets its contract: the file's own refusal, or 9, with the map as it was; else the file's run, and the map filled. Assumes nothing.
use native.Mathlib.Omega.{arith}
use mathlib.Core.Path.{◌≡◌, sym, ap, ◌∙◌}
use mathlib.Core.Bool.{not}
use lib.Dec.{eqb}
use lib.ListN.{length, take}
use Rattle.scope.specs.Run.{ValidRun, cells_of}
use Rattle.scope.specs.Refusal.{◌when◌, complaint}
use Rattle.scope.specs.declared.Reason.TheVariants.{Room}
use Rattle.scope.specs.Inner.{verdict}
use Rattle.scope.proofs.Judged.{Passes, first, then, both, fine, blamed, said_answered, said_refused}
use Rattle.scope.proofs.Limits.{valid_run}
use Rattle.scope.proofs.Differs.{same}
use Rattle.saved.specs.File.{file_blocks_for, file_length, bytes_for, run_of, bytes_in, map_of, file_tests, reading_tests}
use Rattle.saved.specs.Promise.{says_reading}
use Rattle.saved.proofs.Promises.{accepted, stopped_reading, grant_reading}
use Rattle.saved.proofs.read.Goals as goal
use Rattle.saved.proofs.read.Goals.{After-cells, After-when, In_ok-saved, In_ok-when}

-- the file passes its tests, and the run answered is its own
told : (c : In_ok-saved) → Passes (file_tests c.args.file.now) × (c.in_ok-saved.saved ≡ run_of c.args.file.now)
told c = said_answered _ (ap says_reading (sym c.in_ok-saved.was) ∙ c.judge_file.ensures)

valid : (c : In_ok-saved) → ValidRun c.in_ok-saved.saved
valid c = valid_run (rw (← (told c).1) at (accepted (told c).0).limited) (omega (arith, rw c.in_ok-saved.was at c.judge_file.type_inv))

-- the room is that of the run
cells_told : (c : After-cells) → c.cells.result ≡ cells_of (run_of c.args.file.now)
cells_told c = c.cells.ensures ∙ ap cells_of (told (goal.at.After-cells c).In_ok-saved).1

room_judged : (c : After-when) → c.when.result ≡ verdict (complaint (Room when not (eqb (length c.args.map.now) (cells_of (run_of c.args.file.now)))))
room_judged c = rw (cells_told (goal.at.After-when c).After-cells) at c.when.ensures

long : (c : In_ok-when) → length c.args.map.now ≡ c.cells.result
long c = same _ _ (fine c.when.ensures c.in_ok-when.was)

pub returns-in_err-saved : goal.returns-in_err-saved
unfolding reading_tests
returns-in_err-saved c = stopped_reading (first (said_refused _ _ (ap says_reading (sym c.in_err-saved.was) ∙ c.judge_file.ensures))) c.from_residual.ensures.1

pub cells-requires : goal.cells-requires
cells-requires c = valid (goal.at.cells-requires c).In_ok-saved

pub returns-in_err-when : goal.returns-in_err-when
unfolding reading_tests
returns-in_err-when c =
    stopped_reading
    (then (told (goal.at.returns-in_err-when c).In_ok-saved).0 (blamed (room_judged (goal.at.returns-in_err-when c).After-when) c.in_err-when.was))
    c.from_residual-in_err-when.ensures.1

pub load-requires : goal.load-requires
unfolding bytes_for
load-requires c =
    (accepted (told (goal.at.load-requires c).In_ok-saved).0).long
    ∙ ap file_length (sym (long (goal.at.load-requires c).In_ok-when ∙ cells_told (goal.at.load-requires c).After-cells))

pub returns : goal.returns
unfolding reading_tests map_of bytes_for
returns c =
    let l = long (goal.at.returns c).In_ok-when in
    grant_reading
    (both (told (goal.at.returns c).In_ok-saved).0 (fine (room_judged (goal.at.returns c).After-when) c.in_ok-when.was))
    (told (goal.at.returns c).In_ok-saved).1
    (c.load.ensures ∙ ap (λ n. take n (bytes_in c.args.file.now (file_blocks_for n))) (l ∙ cells_told (goal.at.returns c).After-cells))
