-- `blanking::StretchesFromIterator::next` meets its contract: the next blanked line, and after it the next that is not (`proofs/Lines`).
-- Assumes nothing.
use mathlib.Core.Path.{refl}
use Rattle.blanking.proofs.Guarding.{blanked_inside}
use Rattle.blanking.proofs.Lines.{no_stretch, one_stretch}
use Rattle.blanking.specs.InnerAsking.{Blanks}
use Rattle.blanking.proofs.StretchesFromIterator.next.Goals as goal

pub returns-in_err-first-clause-steps : goal.returns-in_err-first-clause-steps
returns-in_err-first-clause-steps c =
    let a = c.args.self.now.asked in
    rw c.from_residual.ensures (refl, no_stretch a.run.last (Blanks a) c.args.self.now.line (λ j b. (blanked_inside j b).1) c.in_err-first.ensures)

pub returns-clause-steps : goal.returns-clause-steps
returns-clause-steps c =
    let a = c.args.self.now.asked in
    (refl, rw c.unwrap_or-end.ensures (one_stretch a.run.last (Blanks a) c.args.self.now.line (λ j b. (blanked_inside j b).1) c.in_ok-first.first c.next_clear.result c.in_ok-first.ensures c.next_clear.ensures))
