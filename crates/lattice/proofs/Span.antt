-- Two vectors of L whose area is p are a basis of L: every point of L is a whole combination of them.
-- A point (x, y) of L, whole numbers, is written by differences x = e - d, y = Y - Y'. Assumes nothing.
use mathlib.Core.Path.{◌≡◌, ap, subst}
use Prim.Native.Nat.{ℕ, ◌+◌, ◌*◌, ◌<◌}
use native.Mathlib.Omega.{arith}
use Rattle.lattice.proofs.Congruence.{Cong, cong_refl, cong_sym, cong_trans, cong_cancel, cong_mix}
use Rattle.lattice.proofs.Multiples.{cancel}
use Rattle.lattice.proofs.Law.{Basis}

-- (e - d, Y - Y') is k - k' times (-A, β) and l - l' times (C, δ)
pub record Combined (A β C δ d Y e Y' : ℕ) : Type 0 where
  pub k : ℕ
  pub k' : ℕ
  pub l : ℕ
  pub l' : ℕ
  pub lines : Y + k' * β + l' * δ ≡ Y' + k * β + l * δ
  pub distance : e + k * A + l' * C ≡ d + k' * A + l * C

-- The two equations for k - k' and l - l', (whole) and (cross), have the determinant A·δ + C·β.
-- (whole) times β and (cross) times δ give the lines, (whole) times A less (cross) times C the distance.
module _ (p A β C δ d Y e Y' k k' l l' : ℕ) (area : A * δ + C * β ≡ p) (whole : Y * C + d * δ + k' * p ≡ Y' * C + e * δ + k * p) (cross : Y * A + e * β + l' * p ≡ Y' * A + d * β + l * p) where
  lines_times : Y * p + k' * p * β + l' * p * δ ≡ Y' * p + k * p * β + l * p * δ
  lines_times = subst (λ x. Y * x + k' * p * β + l' * p * δ ≡ Y' * x + k * p * β + l * p * δ) area (omega (arith, ap (λ x. x * β) whole, ap (λ x. x * δ) cross))

  distance_times : d * p + k' * p * A + l * p * C ≡ e * p + k * p * A + l' * p * C
  distance_times = subst (λ x. d * x + k' * p * A + l * p * C ≡ e * x + k * p * A + l' * p * C) area (omega (arith, ap (λ x. x * A) whole, ap (λ x. x * C) cross))

solved : {p A β C δ d Y e Y' : ℕ} → 0 < p → A * δ + C * β ≡ p → Cong p (Y * C + d * δ) (Y' * C + e * δ) → Cong p (Y * A + e * β) (Y' * A + d * β) → Combined A β C δ d Y e Y'
solved {p} {A} {β} {C} {δ} {d} {Y} {e} {Y'} pos area whole cross = record {
  k = whole.down;
  k' = whole.up;
  l = cross.down;
  l' = cross.up;
  lines = cancel pos (omega (arith, lines_times p A β C δ d Y e Y' whole.down whole.up cross.down cross.up area whole.same cross.same));
  distance = cancel pos (omega (arith, distance_times p A β C δ d Y e Y' whole.down whole.up cross.down cross.up area whole.same cross.same));
}

-- every point of L is a whole combination of the two vectors
pub combined : {p r A β C δ : ℕ} (d Y e Y' : ℕ) → 0 < p → Basis p r A β C δ → Cong p (e + r * Y') (d + r * Y) → Combined A β C δ d Y e Y'
combined {p} {r} {A} {β} {C} {δ} d Y e Y' pos basis way = solved pos basis.area (cong_trans onto (cong_sym from)) (cong_cancel (r * Y' * β) (cong_trans onto' (cong_sym from')))
  where
    onto : Cong p (Y * C + d * δ) (δ * (e + r * Y'))
    onto = cong_mix Y δ (r * Y * δ) basis.lies_right.cong (cong_sym way) (omega arith) (omega arith)

    from : Cong p (Y' * C + e * δ) (δ * (e + r * Y'))
    from = cong_mix Y' δ 0 basis.lies_right.cong (cong_refl p e) (omega arith) (omega arith)

    onto' : Cong p (Y * A + e * β + r * Y' * β) (β * d)
    onto' = cong_mix Y β (r * Y * β) basis.lies_left.cong way (omega arith) (omega arith)

    from' : Cong p (Y' * A + d * β + r * Y' * β) (β * d)
    from' = cong_mix Y' β 0 basis.lies_left.cong (cong_refl p d) (omega arith) (omega arith)
