-- `map::clear` meets its contract. The loop's invariant: the map is written with `at` zeros. Assumes nothing.
use Prim.Native.Nat.{ℕ, ◌+◌}
use native.Mathlib.Omega.{arith}
use mathlib.Core.Path.{◌≡◌, ◌∙◌, ap, subst}
use lib.ListN.{length, set, replicate-append-replicate}
use Rattle.rooms.specs.Lists.{zeros}
use Rattle.rooms.specs.Inner.{Written}
use Rattle.rooms.proofs.Written.{written_none, written_one, written_append, written_all}
use Rattle.map.proofs.clear.Goals as goal

pub loop-at-init : goal.loop-at-init
unfolding zeros
loop-at-init c = written_none _ 0 (omega arith)

pub loop-at-preserved : goal.loop-at-preserved
unfolding zeros
loop-at-preserved c =
    let inv = c.loop-at.invariant in
    let more = rw (replicate-append-replicate {A = ℕ} c.loop-at.at 1 0) at (written_append inv (written_one _ c.loop-at.at 0 (omega arith))) in
    subst (λ i. Written c.args.map.now 0 (zeros (c.loop-at.at + 1)) (c.loop-at.at + 1) (set c.loop-at.map i 0)) (omega arith) more

pub returns : goal.returns
returns c =
    let all : c.loop-at.at ≡ length c.args.map.now = omega arith in
    written_all c.loop-at.invariant all ∙ ap zeros all
