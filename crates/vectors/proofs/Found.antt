-- What stands where the division sequence is stopped: the single vector, or the pair. Assumes nothing.
use Prim.Native.Nat.{ℕ, ◌+◌, ◌-◌, ◌*◌, ◌/◌, ◌≤◌, ◌<◌}
use mathlib.Core.Path.{◌≡◌, refl, sym, ap, subst, subst₂, ◌∙◌}
use mathlib.Core.Bool.{true, false}
use native.Mathlib.Omega.{arith}
use lib.IntN.{pos, nat_abs}
use lib.Signed.{lt_z}
use Rattle.lattice.proofs.Gcd.{last_gcd, last_lines}
use Rattle.lattice.proofs.Multiples.{rest}
use Rattle.lattice.proofs.Pair.{Paired, paired}
use Rattle.lattice.proofs.Stage.{Side, left, right, other, ended, start}
use Rattle.vectors.specs.declared.Vector.{Vector}
use Rattle.vectors.specs.declared.Turn.{Turn}
use Rattle.vectors.specs.Inner.{ValidSpan, partner_of, Moves, Successive, Ready, Stopped, Open}
use Rattle.vectors.specs.Vectors.{IsPair, IsSingle}
use Rattle.vectors.proofs.Bridge.{leftward, rightward, from_magnitudes}
use Rattle.vectors.proofs.Sequence.{size_of, moved, some_size, side_left, side_right}

-- the first vector moves p to the left
pub start_left : (p : ℕ) → Moves left p 0 (leftward p 0)
start_left p = record { offset = refl; line = refl }

-- the first two vectors are (-p, 0) and (r, 1)
pub first_two_lem : {p r : ℕ} → r < p → Successive p r (leftward p 0) (rightward r 1)
first_two_lem {p} {r} h = record {
  side = right;
  n = p;
  m = r;
  b = 0;
  c = 1;
  stage = start h;
  before = start_left p;
  last = record { offset = refl; line = refl };
}

pub begin : {p r I : ℕ} → ValidSpan p r I → Ready I (leftward p 0) (rightward r 1)
begin {p} h = record {
  division = record { p = _; r = _; at = first_two_lem h.remainder; small = h.small };
  width = h.some;
  past = rw (size_of (start_left p)) h.window;
}

-- a vector is known by its moves
is_left : {n c : ℕ} {v : Vector} → Moves left n c v → v ≡ leftward n c
is_left {n} {c} {v} h = λ i. record { offset = h.offset i; line = h.line i }

is_right : {n c : ℕ} {v : Vector} → Moves right n c v → v ≡ rightward n c
is_right {n} {c} {v} h = λ i. record { offset = h.offset i; line = h.line i }

-- a vector that keeps its offset: the one before it moves by the greatest common divisor
pub single : {p r I : ℕ} {t : Turn} → Stopped p r I t → t.last.offset ≡ pos 0 → IsSingle p r I t.last
single {p} {r} {I} {t} h zero_offset =
    let s = h.at in
    let e : s.m ≡ 0 = sym (size_of s.last) ∙ ap nat_abs zero_offset in
    let stage = ended s.stage e in
    record {
      g = s.n;
      is_gcd = last_gcd stage;
      wide = rw (size_of s.before) at h.past;
      at_zero = zero_offset;
      rises = s.last.line ∙ last_lines stage;
    }

-- the last vector and its partner, the one that leads left first
abbrev Ordered : Side → ℕ → ℕ → ℕ → Vector → Vector → Type 0
Ordered left p r I v w = IsPair p r I v w
Ordered right p r I v w = IsPair p r I w v

ordered : (s : Side) (p r I : ℕ) {k e m c : ℕ} {v w : Vector} → Paired s p r I k e m c → Moves s m c v → Moves (other s) k e w → Ordered s p r I v w
ordered left p r I h a b = subst₂ (λ v w. IsPair p r I v w) (sym (is_left a)) (sym (is_right b)) (from_magnitudes h)
ordered right p r I h a b = subst₂ (λ v w. IsPair p r I v w) (sym (is_left b)) (sym (is_right a)) (from_magnitudes h)

both : {p r I : ℕ} {t : Turn} (h : Stopped p r I t) → 0 < nat_abs t.last.offset → Ordered h.at.side p r I t.last (partner_of t.before t.last I)
both {p} {r} {I} {t} h some =
    let s = h.at in
    let within : s.m < I = rw (size_of s.last) at h.within in
    let past : I ≤ s.n = rw (size_of s.before) at h.past in
    let left_over = rest {n = s.n} {m = s.m} {W = I} (rw (size_of s.last) at some) (omega arith) past in
    rw (size_of s.before, size_of s.last)
    (ordered s.side p r I (paired s.stage within past left_over) s.last (moved s ((s.n - I) / s.m + 1) (s.n - ((s.n - I) / s.m + 1) * s.m) left_over.sum))

-- the side of a vector by the sign of its offset
pub pair_left : {p r I : ℕ} {t : Turn} → Stopped p r I t → 0 < nat_abs t.last.offset → lt_z t.last.offset (pos 0) ≡ true → IsPair p r I t.last (partner_of t.before t.last I)
pair_left {p} {r} {I} {t} h some below = subst (λ s. Ordered s p r I t.last (partner_of t.before t.last I)) (side_left h.at below) (both h some)

pub pair_right : {p r I : ℕ} {t : Turn} → Stopped p r I t → 0 < nat_abs t.last.offset → lt_z t.last.offset (pos 0) ≡ false → IsPair p r I (partner_of t.before t.last I) t.last
pair_right {p} {r} {I} {t} h some above = subst (λ s. Ordered s p r I t.last (partner_of t.before t.last I)) (side_right h.at some above) (both h some)

-- past the test for 0 there is a partner to look for
pub partner_left : {p r I : ℕ} {t : Turn} → Stopped p r I t → p ≤ 2147483647 → (t.last.offset ≡ pos 0 → ⊥) → Open I t.before t.last
partner_left {p} {r} {I} {t} h small other = record {
  division = record { p = p; r = r; at = h.at; small = small };
  within = h.within;
  past = h.past;
  some = some_size t.last.offset other;
}
