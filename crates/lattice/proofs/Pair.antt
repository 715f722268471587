-- The pair of a width W: two vectors of L, one to each side, both shorter than W and together at least W, of area p.
-- The first stage whose m is below W gives it, or shows that there is none. Assumes nothing.
use mathlib.Core.Logic.{◌↔◌, ◌⊎◌, inl, inr, ⊎_elim}
use Prim.Native.Nat.{ℕ, zero, suc, ◌+◌, ◌*◌, ◌≤◌, ◌<◌}
use native.Mathlib.Nat.{le_of_dvd, mul-le-mul_left, mul-le-mul_right, mod-lt}
use native.Mathlib.Omega.{arith}
use Rattle.lattice.proofs.Congruence.{split}
use Rattle.lattice.proofs.Multiples.{Rest, rest, rest_some}
use Rattle.lattice.proofs.Law.{Basis}
use Rattle.lattice.proofs.Stage.{Side, left, right, Stage, start, next, slide_spans, ended}
use Rattle.lattice.proofs.Gcd.{IsGcd, gcd_unique, last_gcd, dvd_left}

-- (-A, β) and (C, δ) are the pair of the width W
pub record Pair (p r W A β C δ : ℕ) : Type 0 where
  pub basis : Basis p r A β C δ
  pub lines_left : 1 ≤ β
  pub lines_right : 1 ≤ δ
  pub below_left : A < W
  pub below_right : C < W
  pub wide : W ≤ A + C

-- what else holds of a pair
pub record Extent (p W A C : ℕ) : Type 0 where
  pub left_some : 1 ≤ A
  pub right_some : 1 ≤ C
  pub width_some : 1 ≤ W
  pub fits : W ≤ p

-- each vector is shorter than W and the two together are not, so neither moves by 0
pub extent : {p r W A β C δ : ℕ} → Pair p r W A β C δ → Extent p W A C
extent {A = A} {β} {C} {δ} h =
    let area = h.basis.area in
    let wl = mul-le-mul_left A h.lines_right in
    let wr = mul-le-mul_left C h.lines_left in
    omega arith

-- w = (k to the other side, e) and v = (m to the side s, c) are the pair
abbrev pub Paired : Side → (p r W k e m c : ℕ) → Type 0
Paired left p r W k e m c = Pair p r W m c k e
Paired right p r W k e m c = Pair p r W k e m c

-- u + a·v takes lines
lines_some : {a c : ℕ} (b : ℕ) → 1 ≤ a → 1 ≤ c → 1 ≤ b + a * c
lines_some {a} {c} b h l = omega (arith, mul-le-mul_right c h)

-- the stage with 0 < m < W ≤ n gives the pair u + a·v, v, where a·m is what n has to lose to come below W
pub paired : {p r : ℕ} {s : Side} {n m b c W a k : ℕ} → Stage p r s n m b c → m < W → W ≤ n → Rest n m W a k → Paired s p r W k (b + a * c) m c
paired {s = left} {b = b} {c} {a = a} {k} st m<W W≤n h = record {
  basis = slide_spans a k st h.sum;
  lines_left = st.some;
  lines_right = lines_some b (rest_some W≤n h) st.some;
  below_left = m<W;
  below_right = h.below;
  wide = omega (arith, h.close);
}
paired {s = right} {b = b} {c} {a = a} {k} st m<W W≤n h = record {
  basis = slide_spans a k st h.sum;
  lines_left = lines_some b (rest_some W≤n h) st.some;
  lines_right = st.some;
  below_left = h.below;
  below_right = m<W;
  wide = h.close;
}

-- a stage with m < W ≤ n
pub record Reached (p r W : ℕ) : Type 0 where
  pub side : Side
  pub n : ℕ
  pub m : ℕ
  pub b : ℕ
  pub c : ℕ
  pub stage : Stage p r side n m b c
  pub below : m < W
  pub above : W ≤ n

-- t bounds the stages that are left, by the measure m
descend : (t : ℕ) {p r W : ℕ} {s : Side} {n m b c : ℕ} → 1 ≤ W → m < t → Stage p r s n m b c → W ≤ n → Reached p r W
descend zero pos bound st W≤n = absurd (omega arith)
descend (suc t) {n = n} {m} pos bound st W≤n =
    ⊎_elim
    (λ h. record { side = _; n = n; m = m; b = _; c = _; stage = st; below = h; above = W≤n })
    (λ h.
    let m>0 : 0 < m = omega arith in
    descend t pos (omega (arith, mod-lt n m>0)) (next m>0 st) h)
    (split m _)

-- the division sequence comes to one
pub reach : {p r W : ℕ} → r < p → 1 ≤ W → W ≤ p → Reached p r W
reach {r = r} h pos W≤p = descend (suc r) pos (omega arith) (start h) W≤p

-- a pair of the width W, whichever
pub record SomePair (p r W : ℕ) : Type 0 where
  pub A : ℕ
  pub β : ℕ
  pub C : ℕ
  pub δ : ℕ
  pub pair : Pair p r W A β C δ

some : (s : Side) {p r W : ℕ} (k e m c : ℕ) → Paired s p r W k e m c → SomePair p r W
some left k e m c h = record { A = m; β = c; C = k; δ = e; pair = h }
some right k e m c h = record { A = k; β = e; C = m; δ = c; pair = h }

-- the greatest common divisor divides A, and A is below W
pub pair_gcd : {g p r W A β C δ : ℕ} → Pair p r W A β C δ → IsGcd g r p → g < W
pair_gcd {g} h d = omega (arith, h.below_left, le_of_dvd (extent h).left_some (dvd_left g d.divides_left d.divides_right h.basis.lies_left))

-- there, m > 0 gives a pair, and m = 0 a greatest common divisor of W or more
pub reached_cases : {p r W : ℕ} → Reached p r W → SomePair p r W ⊎ ((g : ℕ) × IsGcd g r p × (W ≤ g))
reached_cases {p} {r} {W} h = ⊎_elim (λ pos. inl (many pos)) (λ z. inr (h.n, last_gcd (ended h.stage (omega arith)), h.above)) (split 0 h.m)
  where
    many : 0 < h.m → SomePair p r W
    many pos =
        let below = h.below in
        some h.side _ _ _ _ (paired h.stage below h.above (rest pos (omega arith) h.above))

-- a pair exists exactly if the greatest common divisor is below W, and W no more than p
pub pair_iff : {g p r W : ℕ} → r < p → IsGcd g r p → SomePair p r W ↔ ((g < W) × (W ≤ p))
pair_iff {g} {p} {r} {W} low d = (λ h. (pair_gcd h.pair d, (extent h.pair).fits), λ f. from f.0 f.1)
  where
    from : g < W → W ≤ p → SomePair p r W
    from g<W W≤p = ⊎_elim (λ h. h) (λ x. absurd (omega (arith, gcd_unique d x.1, x.2))) (reached_cases (reach low (omega arith) W≤p))
