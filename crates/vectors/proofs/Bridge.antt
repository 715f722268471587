-- The pair and the lattice over the integers, as 01 has them, are those over magnitudes, as the mathematics has them.
-- Assumes nothing.
use Prim.Native.Nat.{ℕ, ◌+◌, ◌*◌}
use mathlib.Core.Path.{◌≡◌, sym, ap, subst, ◌∙◌}
use mathlib.Core.Logic.{◌↔◌}
use native.Mathlib.Omega.{arith}
use lib.IntN.{ℤ, pos, neg_ℤ, nat_abs, ◌+ℤ◌, ◌-ℤ◌, ◌*ℤ◌}
use lib.Signed.{◌≤ℤ◌}
use Rattle.signed.proofs.Parts.{parts, sum, neg_up, neg_dn, apart, abs_parts}
use Rattle.signed.proofs.Difference.{diff, pos_diff, diff_neg, differences}
use Rattle.signed.proofs.Divides.{divides_apart}
use Rattle.lattice.proofs.Congruence.{cong_iff_mod}
use Rattle.lattice.proofs.Differences.{Lft, Rgt}
use Rattle.lattice.proofs.Pair.{Pair}
use Rattle.vectors.specs.declared.Vector.{Vector}
use Rattle.vectors.specs.Vectors.{InLattice, IsPair}

-- the vector that goes A to the left, and the one that goes C to the right
abbrev pub leftward : ℕ → ℕ → Vector
leftward A β = record { offset = neg_ℤ (pos A); line = β }

abbrev pub rightward : ℕ → ℕ → Vector
rightward C δ = record { offset = pos C; line = δ }

negative : (n : ℕ) → neg_ℤ (pos n) ≡ diff 0 n
negative n = ap neg_ℤ (pos_diff n) ∙ diff_neg n 0

-- they lie in the lattice exactly if their magnitudes say so
left_lies : (p r A β : ℕ) → InLattice p r (leftward A β) ↔ Lft p r A β
unfolding InLattice
left_lies p r A β =
    let e : pos (r * β) +ℤ pos 0 ≡ neg_ℤ (pos A) +ℤ pos (A + r * β) = simp (negative, differences) (omega arith) in
    let d = divides_apart p (A + r * β) 0 (pos (r * β)) (neg_ℤ (pos A)) e in
    let c = cong_iff_mod p (A + r * β) 0 in
    (λ h. record { cong = c.1 (d.0 h) }, λ h. d.1 (c.0 h.cong))

right_lies : (p r C δ : ℕ) → InLattice p r (rightward C δ) ↔ Rgt p r C δ
unfolding InLattice
right_lies p r C δ =
    let e : pos (r * δ) +ℤ pos C ≡ pos C +ℤ pos (r * δ) = simp differences (omega arith) in
    let d = divides_apart p (r * δ) C (pos (r * δ)) (pos C) e in
    let c = cong_iff_mod p C (r * δ) in
    (λ h. record { cong = c.1 (sym (d.0 h)) }, λ h. d.1 (sym (c.0 h.cong)))

-- an integer that is not above 0, or not below it, is its magnitude with a sign
nonpos : (z : ℤ) → z ≤ℤ pos 0 → z ≡ neg_ℤ (pos (nat_abs z))
nonpos z h = omega (arith, parts, abs_parts z, apart z, neg_up (pos (nat_abs z)), neg_dn (pos (nat_abs z)))

pub nonneg : (z : ℤ) → pos 0 ≤ℤ z → z ≡ pos (nat_abs z)
nonneg z h = omega (arith, parts, abs_parts z, apart z)

area_magnitudes : (A β C δ p : ℕ) → ((pos β *ℤ pos C) -ℤ (neg_ℤ (pos A) *ℤ pos δ) ≡ pos p) ↔ (A * δ + C * β ≡ p)
area_magnitudes A β C δ p = simp (negative, differences) (λ h. omega arith, λ h. omega arith)

-- a pair of magnitudes is a pair of 01
pub from_magnitudes : {p r I A β C δ : ℕ} → Pair p r I A β C δ → IsPair p r I (leftward A β) (rightward C δ)
from_magnitudes {p} {r} {I} {A} {β} {C} {δ} h = record {
  left_in = (left_lies p r A β).1 h.basis.lies_left;
  right_in = (right_lies p r C δ).1 h.basis.lies_right;
  left_rises = h.lines_left;
  right_rises = h.lines_right;
  left_low = omega (arith, parts, neg_up (pos A), neg_dn (pos A), neg_up (pos I), neg_dn (pos I));
  left_high = omega (arith, parts, neg_up (pos A), neg_dn (pos A));
  right_low = omega (arith, parts);
  right_high = omega (arith, parts);
  apart = omega (arith, parts, sum (pos C) (neg_ℤ (neg_ℤ (pos A))), neg_up (neg_ℤ (pos A)), neg_dn (neg_ℤ (pos A)), neg_up (pos A), neg_dn (pos A));
  area = (area_magnitudes A β C δ p).1 h.basis.area;
}

-- and the other way round
to_magnitudes : {p r I A β C δ : ℕ} → IsPair p r I (leftward A β) (rightward C δ) → Pair p r I A β C δ
to_magnitudes {p} {r} {I} {A} {β} {C} {δ} h = record {
  basis = record {
    lies_left = (left_lies p r A β).0 h.left_in;
    lies_right = (right_lies p r C δ).0 h.right_in;
    area = (area_magnitudes A β C δ p).0 h.area;
  };
  lines_left = h.left_rises;
  lines_right = h.right_rises;
  below_left = omega (arith, parts, neg_up (pos A), neg_dn (pos A), neg_up (pos I), neg_dn (pos I));
  below_right = omega (arith, parts);
  wide = omega (arith, parts, sum (pos C) (neg_ℤ (neg_ℤ (pos A))), neg_up (neg_ℤ (pos A)), neg_dn (neg_ℤ (pos A)), neg_up (pos A), neg_dn (pos A));
}

-- every pair of 01 is one of magnitudes
pub record Magnitudes (p r I : ℕ) (left right : Vector) : Type 0 where
  pub A : ℕ
  pub C : ℕ
  pub left_is : left ≡ leftward A left.line
  pub right_is : right ≡ rightward C right.line
  pub pair : Pair p r I A left.line C right.line

pub magnitudes : {p r I : ℕ} {left right : Vector} → IsPair p r I left right → Magnitudes p r I left right
magnitudes {p} {r} {I} {left} {right} h =
    let l : left ≡ leftward (nat_abs left.offset) left.line = ap (λ z. record { offset = z; line = left.line }) (nonpos left.offset h.left_high) in
    let g : right ≡ rightward (nat_abs right.offset) right.line = ap (λ z. record { offset = z; line = right.line }) (nonneg right.offset h.right_low) in
    record {
      A = nat_abs left.offset;
      C = nat_abs right.offset;
      left_is = l;
      right_is = g;
      pair = to_magnitudes (subst (λ (v : Vector). IsPair p r I v (rightward (nat_abs right.offset) right.line)) l (subst (λ (v : Vector). IsPair p r I left v) g h));
    }
