-- The first point of a coset in a window of width W, seen from one of its points, and the next one after it.
-- A way that passes over nothing, and the first point from where it ends, make the first point. Assumes nothing.
use mathlib.Core.Path.{◌≡◌, subst}
use Prim.Native.Nat.{ℕ, ◌+◌, ◌-◌, ◌≤◌, ◌<◌}
use native.Mathlib.Omega.{arith}
use Rattle.lattice.proofs.Differences.{Go, go_stay, go_on}

-- from distance d, the first point at a distance below W is at e, Y lines on
pub record First (p r W d Y e : ℕ) : Type 0 where
  pub inside : e < W
  pub way : Go p r d Y e
  pub least : (Z f : ℕ) → f < W → Go p r d Z f → Y ≤ Z

-- from distance d, no point on this line or a later one is at a distance below W
pub record Never (p r W d : ℕ) : Type 0 where
  pub outside : (Z f : ℕ) → Go p r d Z f → W ≤ f

-- a point within the window is the first itself
pub first_here : {p r W d : ℕ} → d < W → First p r W d 0 d
first_here {p} {r} {W} {d} h = record { inside = h; way = go_stay p r d; least = λ Z f l g. omega arith }

-- the rest of a way that is not shorter
rest_way : {p r d Y d₁ Z f : ℕ} → Go p r d Y d₁ → Y ≤ Z → Go p r d Z f → Go p r d₁ (Z - Y) f
rest_way {p} {r} {d} {Y} {Z = Z} {f} h l g =
    let e : Z ≡ Y + (Z - Y) = omega arith in
    (go_on (Z - Y) f h).1 (subst (λ x. Go p r d x f) e g)

-- where a way to the first point below B ends, the first point below W, W being at most B, is sought from there on
module _ {p r W B d Y d₁ : ℕ} (low : W ≤ B) (jump : First p r B d Y d₁) where
  -- it is the first from d on
  pub first_after : {Z e : ℕ} → First p r W d₁ Z e → First p r W d (Y + Z) e
  first_after {Z} {e} h = record { inside = h.inside; way = (go_on Z e jump.way).0 h.way; least = least }
    where
      least : (X f : ℕ) → f < W → Go p r d X f → Y + Z ≤ X
      least X f l g =
          let past : Y ≤ X = jump.least X f (omega arith) g in
          omega (arith, h.least (X - Y) f l (rest_way jump.way past g))

-- from distance d, the next point at a distance below W, on a later line, is at e, Y lines on
pub record Next (p r W d Y e : ℕ) : Type 0 where
  pub later : 1 ≤ Y
  pub inside : e < W
  pub way : Go p r d Y e
  pub least : (Z f : ℕ) → 1 ≤ Z → f < W → Go p r d Z f → Y ≤ Z
