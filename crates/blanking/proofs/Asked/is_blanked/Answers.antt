-- `blanking::Asked::is_blanked` meets its contract: the guard cells of a line are a part of the map (`line_reaches`), and the whole line is
-- within it (`line_fits`). Assumes nothing.
use borrow.Author.Rules.{rules}
use native.Mathlib.Omega.{arith}
use Prim.Native.Nat.{◌/◌}
use mathlib.Core.Path.{◌≡◌, refl}
use mathlib.Core.Logic.Iff
use lib.IntN.{pos, ◌+ℤ◌}
use mir.Syntax.{w64}
use mir.Val.{SFits}
use mir.Facts.{to_z-of_z}
use Rattle.blanking.proofs.Guarding.{near, line_fits, line_reaches}
use Rattle.blanking.proofs.Asked.is_blanked.Goals as goal
use Rattle.blanking.proofs.Asked.is_blanked.Goals.{After-distance-2, Start}

-- the offsets of the guard, and their distances
held_low : (c : Start) → SFits w64 c.args.self.now.guard.lowest
held_low c = search rules

held_high : (c : Start) → SFits w64 c.args.self.now.guard.highest
held_high c = search rules

low : (c : After-distance-2) → let a = c.args.self.now in a.guard.lowest +ℤ pos (a.run.window / 2) ≡ pos c.distance.result
low c = simp (to_z-of_z (held_low (goal.at.After-distance-2 c).Start)) at c.distance.ensures

high : (c : After-distance-2) → let a = c.args.self.now in a.guard.highest +ℤ pos (a.run.window / 2) ≡ pos c.distance-2.result
high c = simp (to_z-of_z (held_high (goal.at.After-distance-2 c).Start)) at c.distance-2.ensures

pub slice_bounds-reaches-end : goal.slice_bounds-reaches-end
slice_bounds-reaches-end c =
    let g = c.args.self.now.in_order in
    omega (arith, line_fits g c.requires.0 c.requires.1, near g.high (high (goal.at.slice_bounds-reaches-end c).After-distance-2))

pub returns : goal.returns
returns c =
    let g = c.args.self.now.in_order in
    Iff.trans c.reaches.ensures (line_reaches g (low (goal.at.returns c).After-distance-2) (high (goal.at.returns c).After-distance-2) c.requires.0 c.requires.1 refl refl)
