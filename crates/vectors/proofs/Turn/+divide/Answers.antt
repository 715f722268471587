-- `Turn::divide` meets its contract: past the test the last vector reaches past the window, and the next one falls.
-- Assumes nothing.
use Rattle.std.proofs.Common.{◌≤◌, arith, nat_abs}
use Rattle.std.proofs.lemmas.Grind.{common_steps}
use Rattle.vectors.proofs.Sequence.{onward, some_past, on_falls}
use Rattle.vectors.proofs.Turn.+divide.Goals as goal

pub divide-requires : goal.divide-requires
divide-requires t c =
    let past : c.args.window ≤ nat_abs c.args.self.now.last.offset = grind (arith, common_steps) in
    rw c.next.ensures (rw (← c.decreases) (on_falls c.requires past))

pub returns : goal.returns
returns t c p r h =
    let past : c.args.window ≤ nat_abs c.args.self.now.last.offset = grind (arith, common_steps) in
    c.divide.ensures p r (rw c.next.ensures (onward h (some_past c.requires past)))
