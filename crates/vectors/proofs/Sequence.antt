-- A step of the division sequence: what u plus q times v is, and that every number on the way fits.
-- Measure of the sequence: the size of v's offset, which falls. Assumes nothing.
use mathlib.Core.Path.{◌≡◌, refl, sym, ap, ◌∙◌}
use Prim.Native.Nat.{ℕ, zero, suc, ◌+◌, ◌-◌, ◌*◌, ◌/◌, ◌%◌, ◌^◌, ◌≤◌, ◌<◌}
use native.Mathlib.Nat.{div-add-mod', mod-lt}
use native.Mathlib.Omega.{arith}
use mathlib.Core.Bool.{true, false}
use lib.IntN.{ℤ, pos, negsuc, neg_ℤ, nat_abs, ◌+ℤ◌, ◌-ℤ◌, ◌*ℤ◌}
use lib.Signed.{lt_z}
use mir.Syntax.{w64}
use mir.Val.{SFits}
use Rattle.signed.proofs.Parts.{parts, sum, neg_up, neg_dn}
use Rattle.signed.proofs.Difference.{differences}
use Rattle.lattice.proofs.Stage.{Side, left, right, other, Stage, bounds, slide_bound}
use Rattle.lattice.proofs.Stage as Stage
use Rattle.vectors.specs.declared.Vector.{Vector}
use Rattle.vectors.specs.Inner.{plus_times, next_of, toward, Moves, Successive, Division, Reaches, Ready}

abs_toward : (s : Side) (n : ℕ) → nat_abs (toward s n) ≡ n
abs_toward left zero = refl
abs_toward left (suc n) = refl
abs_toward right n = refl

-- the size of the offset of a vector that moves n
pub size_of : {s : Side} {n c : ℕ} {v : Vector} → Moves s n c v → nat_abs v.offset ≡ n
size_of {s} {n} h = ap nat_abs h.offset ∙ abs_toward s n

-- a step to the other side, q times m, leaves k of n
slid : (s : Side) (n m q k : ℕ) → n ≡ q * m + k → toward (other s) n +ℤ pos q *ℤ toward s m ≡ toward (other s) k
slid left n m q k e = simp differences (omega arith)
slid right n m q k e = simp differences (omega arith)

-- u plus q times v moves what is left of n
pub moved : {p r : ℕ} {u v : Vector} (h : Successive p r u v) (q k : ℕ) → h.n ≡ q * h.m + k → Moves (other h.side) k (h.b + q * h.c) (plus_times u q v)
moved h q k e = record {
  offset = simp (h.before.offset, h.last.offset) (slid h.side h.n h.m q k e);
  line = simp (h.before.line, h.last.line);
}

twice : (s : Side) {n c : ℕ} {w : Vector} → Moves s n c w → Moves (other (other s)) n c w
twice left k = k
twice right k = k

some : {p r : ℕ} {u v : Vector} (h : Successive p r u v) → 0 < nat_abs v.offset → 0 < h.m
some h l = rw (size_of h.last) at l

-- the quotient of the sizes leaves the remainder
quotient : {p r : ℕ} {u v : Vector} (h : Successive p r u v) → h.n ≡ nat_abs u.offset / nat_abs v.offset * h.m + h.n % h.m
quotient h = rw (size_of h.before, size_of h.last) (sym (div-add-mod' h.n h.m))

-- v and the next vector are successive again
pub onward : {p r : ℕ} {u v : Vector} → Successive p r u v → 0 < nat_abs v.offset → Successive p r v (next_of u v)
onward {p} {r} {u} {v} h l =
    let q = nat_abs u.offset / nat_abs v.offset in
    let k = h.n % h.m in
    record {
      side = other h.side;
      n = h.m;
      m = k;
      b = h.c;
      c = h.b + q * h.c;
      stage = Stage.next_with q k h.stage (quotient h) (mod-lt h.n (some h l));
      before = twice h.side h.last;
      last = moved h q k (quotient h);
    }

-- the size of the offset falls
pub falls : {p r : ℕ} {u v : Vector} → Successive p r u v → nat_abs v.offset < nat_abs u.offset
falls h = rw (size_of h.before, size_of h.last) h.stage.falls

-- the sizes and the lines of two successive vectors are a stage
pub staged : {p r : ℕ} {u v : Vector} (h : Successive p r u v) → Stage p r h.side (nat_abs u.offset) (nat_abs v.offset) u.line v.line
staged h = rw (size_of h.before, size_of h.last, h.before.line, h.last.line) h.stage

-- an offset other than 0 has a size
pub some_size : (z : ℤ) → (z ≡ pos 0 → ⊥) → 0 < nat_abs z
some_size (pos zero) other = absurd (other refl)
some_size (pos (suc k)) other = omega arith
some_size (negsuc k) other = omega arith

-- the side to which v leads, by the sign of its offset
pub side_left : {p r : ℕ} {u v : Vector} (h : Successive p r u v) → lt_z v.offset (pos 0) ≡ true → h.side ≡ left
side_left h below = go h.side (rw h.last.offset at below)
  where
    go : (s : Side) → lt_z (toward s h.m) (pos 0) ≡ true → s ≡ left
    go left b = refl
    go right b = absurd (omega (arith, parts))

pub side_right : {p r : ℕ} {u v : Vector} (h : Successive p r u v) → 0 < nat_abs v.offset → lt_z v.offset (pos 0) ≡ false → h.side ≡ right
side_right h l above = go h.side (rw h.last.offset at above)
  where
    go : (s : Side) → lt_z (toward s h.m) (pos 0) ≡ false → s ≡ right
    go left a = absurd (let m = some h l in omega (arith, parts, neg_up (pos h.m), neg_dn (pos h.m)))
    go right a = refl

-- so many of the last vector's lines and those of the one before fit
pub lines_fit : {u v : Vector} {q : ℕ} → Reaches u q v → u.line + q * v.line < 2 ^ 31
lines_fit {q = q} h =
    let s = h.division.at in
    let small = h.division.small in
    let reach : q * s.m ≤ s.n = rw (size_of s.before, size_of s.last) at h.reach in
    let lines = slide_bound q (s.n - q * s.m) s.stage (some s h.some) (omega arith) in
    rw (s.before.line, s.last.line) (omega arith)

-- ---- what may follow

-- where there is a next vector, it goes on the division
pub later : {u v : Vector} → Division u v → 0 < nat_abs v.offset → Division v (next_of u v)
later d some = record { p = d.p; r = d.r; at = onward d.at some; small = d.small }

-- past the window the offset is not 0
pub some_past : {window : ℕ} {u v : Vector} → Ready window u v → window ≤ nat_abs v.offset → 0 < nat_abs v.offset
some_past h past = let width = h.width in omega arith

-- so that the next vector may be gone on from, and its offset is smaller
pub on_falls : {window : ℕ} {u v : Vector} → Ready window u v → window ≤ nat_abs v.offset → (nat_abs (next_of u v).offset < nat_abs v.offset) × Ready window v (next_of u v)
on_falls h past =
    let next = later h.division (some_past h past) in
    (falls next.at, record { division = next; width = h.width; past = past })
