-- The law of the walk: a way between two distances less than A + C apart is a sum of steps (-A, β) and (C, δ).
-- It asks of the two vectors only that they lie in L and span the area p, so that it serves every stage of the
-- division sequence as well as the pair. Assumes nothing.
use mathlib.Core.Path.{◌≡◌, refl, ap}
use mathlib.Core.Logic.{◌⊎◌, inl, inr, ⊎_map}
use Prim.Native.Nat.{ℕ, zero, suc, ◌+◌, ◌-◌, ◌*◌, ◌≤◌, ◌<◌}
use native.Mathlib.Omega.{arith}
use Rattle.lattice.proofs.Congruence.{Cong, cong_sym, cong_mix, cong_cases}
use Rattle.lattice.proofs.Multiples.{cancel, zero_factor}
use Rattle.lattice.proofs.Differences.{Lft, Rgt, Go}

-- so many steps (-A, β) and so many steps (C, δ) lead from distance d to distance e, Y lines on
pub record Steps (A β C δ d Y e : ℕ) : Type 0 where
  pub lefts : ℕ
  pub rights : ℕ
  pub lines : Y ≡ lefts * β + rights * δ
  pub distance : e + lefts * A ≡ d + rights * C

-- p = A·δ + C·β: the two vectors span the whole lattice
pub record Basis (p r A β C δ : ℕ) : Type 0 where
  pub lies_left : Lft p r A β
  pub lies_right : Rgt p r C δ
  pub area : A * δ + C * β ≡ p

module _ (p A β C δ f Y k : ℕ) (some : 0 < p) (area : A * δ + C * β ≡ p) (whole : Y * C + f * δ ≡ k * p) (near : f < A + C) where
  -- enough lines for the way: the rest of them are steps to the right
  enough : (l : ℕ) → Y * A ≡ f * β + l * p → (Y ≡ k * β + l * δ) × (f + l * C ≡ k * A)
  enough l e = (
    cancel some (omega (arith, ap (λ x. x * Y) area, ap (λ x. x * β) whole, ap (λ x. x * δ) e)),
    cancel some (omega (arith, ap (λ x. x * f) area, ap (λ x. x * A) whole, ap (λ x. x * C) e)),
  )

  -- too few lines: then the two distances lie A + C or more apart, or the way is none
  too_few : (l : ℕ) → (0 < δ) ⊎ (f < C) → f * β ≡ Y * A + suc l * p → ⊥
  too_few l side e = go k refl side
    where
      far : f ≡ k * A + suc l * C
      far = cancel some (omega (arith, ap (λ x. x * f) area, ap (λ x. x * A) whole, ap (λ x. x * C) e))

      go : (i : ℕ) → k ≡ i → (0 < δ) ⊎ (f < C) → ⊥
      go zero i (inl d) =
          let z : f * δ ≡ 0 = omega (arith, ap (λ x. x * p) i) in
          let y : f ≡ 0 = zero_factor d (omega arith) in
          omega (arith, ap (λ x. x * β) y)
      go zero i (inr c) = omega (arith, far, ap (λ x. x * A) i)
      go (suc i) j _ = omega (arith, far, ap (λ x. x * A) j)

-- the core of the law, the same for a way to the left and a way to the right
core : {p A β C δ f Y : ℕ} → 0 < p → A * δ + C * β ≡ p → Cong p (Y * C + f * δ) 0 → Cong p (Y * A) (f * β) → f < A + C → (0 < δ) ⊎ (f < C) → Steps A β C δ f Y 0
core {p} {A} {β} {C} {δ} {f} {Y} some area whole cross near side = go (cong_cases whole) (cong_cases cross)
  where
    go : ((k : ℕ) × (Y * C + f * δ ≡ 0 + k * p)) ⊎ ((k : ℕ) × (0 ≡ Y * C + f * δ + suc k * p)) → ((l : ℕ) × (Y * A ≡ f * β + l * p)) ⊎ ((l : ℕ) × (f * β ≡ Y * A + suc l * p)) → Steps A β C δ f Y 0
    go (inl (k, w)) (inl (l, e)) =
        let got = enough p A β C δ f Y k some area (omega arith) near l e in
        record { lefts = k; rights = l; lines = got.0; distance = omega arith }
    go (inl (k, w)) (inr (l, e)) = absurd (too_few p A β C δ f Y k some area (omega arith) near l side e)
    go (inr (k, w)) (inl _) = absurd (omega arith)
    go (inr (k, w)) (inr _) = absurd (omega arith)

module _ {p r A β C δ d Y e : ℕ} (some : 0 < p) (basis : Basis p r A β C δ) (way : Go p r d Y e) where
  open basis use {lies_left, lies_right, area}

  -- (L) the way goes left, or keeps its distance
  pub law_left : e ≤ d → d < e + (A + C) → (0 < δ) ⊎ (d < e + C) → Steps A β C δ d Y e
  law_left le near side = go (d - e) (omega arith)
    where
      go : (f : ℕ) → d ≡ e + f → Steps A β C δ d Y e
      go f at =
          let home : Cong p (f + r * Y) 0 = record { up = way.cong.down; down = way.cong.up; same = omega arith } in
          let whole : Cong p (Y * C + f * δ) 0 = cong_mix Y δ (r * Y * δ) lies_right.cong home (omega arith) (omega arith) in
          let cross : Cong p (Y * A) (f * β) = cong_mix Y β (r * Y * β) lies_left.cong (cong_sym home) (omega arith) (omega arith) in
          let got : Steps A β C δ f Y 0 = core some area whole cross (omega arith) (⊎_map (λ x. x) (λ x. omega arith) side) in
          record { lefts = got.lefts; rights = got.rights; lines = got.lines; distance = omega arith }

  -- (R) the way goes right, or keeps its distance
  pub law_right : d ≤ e → e < d + (A + C) → (0 < β) ⊎ (e < d + A) → Steps A β C δ d Y e
  law_right le near side = go (e - d) (omega arith)
    where
      go : (f : ℕ) → e ≡ d + f → Steps A β C δ d Y e
      go f at =
          let away : Cong p f (r * Y) = record { up = way.cong.up; down = way.cong.down; same = omega arith } in
          let whole : Cong p (Y * A + f * β) 0 = cong_mix Y β (r * Y * β) lies_left.cong away (omega arith) (omega arith) in
          let cross : Cong p (Y * C) (f * δ) = cong_mix Y δ (r * Y * δ) lies_right.cong (cong_sym away) (omega arith) (omega arith) in
          let got : Steps C δ A β f Y 0 = core some (omega arith) whole cross (omega arith) (⊎_map (λ x. x) (λ x. omega arith) side) in
          record { lefts = got.rights; rights = got.lefts; lines = omega arith; distance = omega arith }
