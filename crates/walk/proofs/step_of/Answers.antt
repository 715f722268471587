-- `walk::step_of` meets its contract: a line has at least as many cells as the offset leads left. Assumes nothing.
use Rattle.std.proofs.Common.{◌≡◌, ◌*◌, ◌≤◌, ℕ, arith, pos, nat_abs, ◌+ℤ◌}
use native.Mathlib.Nat.{mul-le-mul, mul-le-mul_right}
use lib.Signed.{yes_non_neg, ◌≤ℤ◌}
use mir.Syntax.{w64}
use mir.Val.{SFits}
use mir.Facts.{to_z-of_z, to_z_pos, Fits-nat_abs}
use Rattle.signed.proofs.Parts.{parts, sum, apart, neg_up, neg_dn, abs_parts}
use Rattle.vectors.specs.declared.Vector.{Vector}
use Rattle.walk.specs.Inner.{Short}
use Rattle.walk.proofs.step_of.Goals as goal

record Held (v : Vector) (window : ℕ) : Type 0 where
  few : v.line * window ≤ 8796093018112
  offset : SFits w64 v.offset
  cells : SFits w64 (pos (v.line * window) +ℤ v.offset)
  ahead : pos 0 ≤ℤ (pos (v.line * window) +ℤ v.offset)
  whole : pos (nat_abs (pos (v.line * window) +ℤ v.offset)) ≡ pos (v.line * window) +ℤ v.offset

held : {v : Vector} {window : ℕ} → Short v window → Held v window
held {v} {window} h =
    let few = mul-le-mul h.few h.wide in
    let some = mul-le-mul_right window h.rises in
    let s = sum (pos (v.line * window)) v.offset in
    let a = apart v.offset in
    let b = apart (pos (v.line * window) +ℤ v.offset) in
    let d = neg_dn (pos window) in
    let u = neg_up (pos window) in
    record {
      few = omega arith;
      offset = omega (arith, parts, h.left, h.right);
      cells = omega (arith, parts, h.left, h.right);
      ahead = omega (arith, parts, h.left);
      whole = omega (arith, parts, h.left, abs_parts (pos (v.line * window) +ℤ v.offset));
    }

pub overflow_cast-result-3 : goal.overflow_cast-result-3
overflow_cast-result-3 c =
    let h = held c.requires in
    let few = h.few in
    simp (to_z_pos w64 {n = c.args.v.line * c.args.window} (omega arith), to_z-of_z h.offset, to_z-of_z h.cells) (yes_non_neg h.ahead, Fits-nat_abs tt h.cells)

pub returns : goal.returns
returns c =
    let h = held c.requires in
    let few = h.few in
    (to_z-of_z h.offset, simp (to_z_pos w64 {n = c.args.v.line * c.args.window} (omega arith), to_z-of_z h.offset, to_z-of_z h.cells) h.whole)
