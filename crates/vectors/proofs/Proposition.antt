-- 002's first proposition over the integers, as it is worded there: the pair is a basis of the lattice, and its second half.
-- Assumes nothing.
use Prim.Native.Nat.{ℕ, ◌+◌, ◌*◌, ◌∣◌}
use mathlib.Core.Path.{◌≡◌, sym, ap, subst₂}
use mathlib.Core.Logic.{◌↔◌}
use native.Mathlib.Omega.{arith}
use lib.IntN.{ℤ, pos, neg_ℤ, nat_abs, ◌+ℤ◌, ◌-ℤ◌, ◌*ℤ◌}
use lib.Signed.{◌<ℤ◌}
use Rattle.signed.proofs.Parts.{parts, up, dn, sum, product, neg_up, neg_dn, apart}
use Rattle.signed.proofs.Difference.{Is, of, int, diff, diff_parts, differences}
use Rattle.signed.proofs.Divides.{divides_apart}
use Rattle.lattice.proofs.Congruence.{Cong, cong_iff_mod}
use Rattle.lattice.proofs.Differences.{Go}
use Rattle.lattice.proofs.Pair.{extent}
use Rattle.lattice.proofs.Span.{combined}
use Rattle.lattice.proofs.Unique.{pair_steps}
use Rattle.vectors.specs.declared.Vector.{Vector}
use Rattle.vectors.specs.Vectors.{InLattice, IsPair, Sum, Whole}
use Rattle.vectors.proofs.Bridge.{magnitudes}

-- a vector of the lattice leads from distance d to distance e, e - d being its offset
pub lies_go : (p r : ℕ) (v : Vector) (d e : ℕ) → v.offset +ℤ pos d ≡ pos e → InLattice p r v ↔ Go p r d v.line e
unfolding InLattice
lies_go p r v d e h =
    let x = pos (r * v.line) in
    let y = v.offset in
    let same : x +ℤ pos e ≡ y +ℤ pos (d + r * v.line) = omega (arith, parts, sum x (pos e), sum y (pos (d + r * v.line)), sum y (pos d)) in
    let q = divides_apart p (d + r * v.line) e x y same in
    let c = cong_iff_mod p e (d + r * v.line) in
    (λ l. record { cong = c.1 (sym (q.0 l)) }, λ g. q.1 (sym (c.0 g.cong)))

signed_sum : (k l A C : ℕ) (i : ℤ) → up i + k * A ≡ dn i + l * C → i ≡ (pos k *ℤ neg_ℤ (pos A)) +ℤ (pos l *ℤ pos C)
signed_sum k l A C i e =
    omega (
      arith,
      parts,
      sum (pos k *ℤ neg_ℤ (pos A)) (pos l *ℤ pos C),
      product (pos k) (neg_ℤ (pos A)),
      product (pos l) (pos C),
      neg_up (pos A),
      neg_dn (pos A),
      ap (λ x. k * x) (neg_up (pos A)),
      ap (λ x. k * x) (neg_dn (pos A)),
    )

-- "If (i, j) satisfies -I < i < I and j ≥ 0, then (i, j) = k(α, β) + l(γ, δ) with k ≥ 0 and l ≥ 0."
pub second_half : {p r I : ℕ} {left right : Vector} → IsPair p r I left right → (v : Vector) → InLattice p r v → neg_ℤ (pos I) <ℤ v.offset → v.offset <ℤ pos I → Sum left right v
second_half {p} {r} {I} {left} {right} h v lies low high =
    let m = magnitudes h in
    let i = v.offset in
    let e : i +ℤ pos (dn i) ≡ pos (up i) = omega (arith, parts, sum i (pos (dn i))) in
    let way = (lies_go p r v (dn i) (up i) e).0 lies in
    let w = extent m.pair in
    let s = pair_steps m.pair (omega (arith, parts, apart i, neg_up (pos I), neg_dn (pos I))) (omega (arith, parts, apart i)) way in
    subst₂ (λ a b. Sum a b v) (sym m.left_is) (sym m.right_is)
    (record { k = s.lefts; l = s.rights; offset = signed_sum s.lefts s.rights m.A m.C i s.distance; line = s.lines })

whole_distance : (k k' l l' A C : ℕ) {i : ℤ} → Is i → up i + k * A + l' * C ≡ dn i + k' * A + l * C → i ≡ (diff k k' *ℤ neg_ℤ (pos A)) +ℤ (diff l l' *ℤ pos C)
whole_distance k k' l l' A C (of a b) e = simp differences (omega (arith, diff_parts a b))

whole_line : (k k' l l' β δ : ℕ) {j : ℤ} → Is j → up j + k' * β + l' * δ ≡ dn j + k * β + l * δ → j ≡ (diff k k' *ℤ pos β) +ℤ (diff l l' *ℤ pos δ)
whole_line k k' l l' β δ (of a b) e = simp differences (omega (arith, diff_parts a b))

-- "(so they are a basis)": every point of the lattice, on whatever line, is a whole combination of the pair.
pub pair_is_basis : {p r I : ℕ} {left right : Vector} → IsPair p r I left right → (i j : ℤ) → p ∣ nat_abs ((pos r *ℤ j) -ℤ i) → Whole left right i j
pair_is_basis {p} {r} {I} {left} {right} h i j lies =
    let m = magnitudes h in
    let a = dn i + r * up j in
    let b = up i + r * dn j in
    let same : (pos r *ℤ j) +ℤ pos b ≡ i +ℤ pos a = omega (arith, parts, sum (pos r *ℤ j) (pos b), sum i (pos a), product (pos r) j) in
    let cong : Cong p b a = (cong_iff_mod p b a).1 (sym ((divides_apart p a b (pos r *ℤ j) i same).0 lies)) in
    let w = extent m.pair in
    let s = combined (dn i) (up j) (up i) (dn j) (omega arith) m.pair.basis cong in
    subst₂ (λ v w. Whole v w i j) (sym m.left_is) (sym m.right_is)
    (record {
      k = diff s.k s.k';
      l = diff s.l s.l';
      offset = whole_distance s.k s.k' s.l s.l' m.A m.C (int i) s.distance;
      line = whole_line s.k s.k' s.l s.l' left.line right.line (int j) s.lines;
    })
