-- How a point is carried down the division sequence: at a stage, a point at a distance d below n moves to the first
-- point that is nearer to the window's left edge, or there is none; the law of the walk shows that nothing is passed over.
-- Assumes nothing.
use mathlib.Core.Path.{◌≡◌}
use mathlib.Core.Logic.{inl, inr}
use Prim.Native.Nat.{ℕ, zero, suc, ◌+◌, ◌-◌, ◌*◌, ◌≤◌, ◌<◌}
use native.Mathlib.Nat.{mul-le-mul_left, mul-le-mul_right}
use native.Mathlib.Omega.{arith}
use Rattle.lattice.proofs.Congruence.{cong_refl, cong_sym, cong_mix, cong_least}
use Rattle.lattice.proofs.Multiples.{Above}
use Rattle.lattice.proofs.Differences.{Go}
use Rattle.lattice.proofs.Law.{Steps, law_left}
use Rattle.lattice.proofs.Stage.{Side, left, right, Stage, spans, bounds}
use Rattle.lattice.proofs.Gcd.{last_gcd, go_cong}
use Rattle.lattice.proofs.First.{First, Never}

-- where m is 0, no point of the coset is nearer than d
pub last_never : {p r : ℕ} {s : Side} {n b c d : ℕ} → Stage p r s n 0 b c → d < n → Never p r d d
last_never {n = n} st h =
    let g = last_gcd st in
    record { outside = λ Z f w. cong_least (cong_sym (go_cong n g.divides_left g.divides_right w)) h }

-- v points right: t steps of v and one of u lead to the first point nearer than d
pub jump_right : {p r n m b c d t e : ℕ} → Stage p r right n m b c → m ≤ d → d < n → Above (n - d - 1) m t → e + n ≡ d + t * m → First p r d d (t * c + b) e × (e < m)
jump_right {p} {r} {n} {m} {b} {c} {d} {t} {e} st m≤d d<n turn at =
    (record { inside = omega arith; way = way; least = least }, omega arith)
  where
    way : Go p r d (t * c + b) e
    way = record { cong = cong_mix 1 t (n - d) (cong_sym st.before.cong) st.last.cong (omega arith) (omega arith) }

    least : (Z f : ℕ) → f < d → Go p r d Z f → t * c + b ≤ Z
    least Z f near g = count w.lefts w.rights w.lines w.distance
      where
        w : Steps n b m c d Z f
        w = law_left (bounds st).positive (spans st) g (omega arith) (omega arith) (inl st.some)

        count : (k l : ℕ) → Z ≡ k * b + l * c → f + k * n ≡ d + l * m → t * c + b ≤ Z
        count zero l lines distance = absurd (omega arith)
        count (suc k) l lines distance =
            let past : t ≤ l = turn.least l (omega arith) in
            omega (arith, mul-le-mul_right c past)

-- v points left: t steps of v lead to the first point nearer than B
pub jump_left : {p r n m b c d B t e : ℕ} → Stage p r left n m b c → B ≤ d → d < n → Above (d - B) m t → d ≡ e + t * m → First p r B d (t * c) e × (B ≤ e + m)
jump_left {p} {r} {n} {m} {b} {c} {d} {B} {t} {e} st B≤d d<n turn at =
    (record { inside = omega arith; way = way; least = least }, omega arith)
  where
    way : Go p r d (t * c) e
    way = record { cong = cong_mix t 1 0 (cong_sym st.last.cong) (cong_refl p e) (omega arith) (omega arith) }

    least : (Z f : ℕ) → f < B → Go p r d Z f → t * c ≤ Z
    least Z f near g =
        let w : Steps m c n b d Z f = law_left (bounds st).positive (spans st) g (omega arith) (omega arith) (inr (omega arith)) in
        let past : t ≤ w.lefts = turn.least w.lefts (omega arith) in
        omega (arith, mul-le-mul_right c past)

-- the numbers on the way there: t·m is below n, and the point that is reached is not left of the edge
pub turn_right : {n m d t : ℕ} → m ≤ d → d < n → Above (n - d - 1) m t → (t * m < n) × (n ≤ d + t * m)
turn_right m≤d d<n turn = omega arith

-- the same for a move to the left
pub turn_left : {n m d B t : ℕ} → m ≤ B → B ≤ d → d < n → Above (d - B) m t → (t * m < n) × (t * m ≤ d)
turn_left m≤B B≤d d<n turn = omega arith

-- a move of t steps of v that is shorter than n takes few lines
pub record Moved (p t m c b : ℕ) : Type 0 where
  pub steps : t ≤ p
  pub distance : t * m < p
  pub lines : t * c + b < p

-- (t·c + b)·m + c is at most p
pub moved : {p r : ℕ} {s : Side} {n m b c t : ℕ} → Stage p r s n m b c → 0 < m → t * m < n → Moved p t m c b
moved {n = n} {m} {b} {c} {t} st m>0 h =
    let o = bounds st in
    let area = st.area in
    let some = st.some in
    let turns : t ≤ t * m = omega (arith, mul-le-mul_left t m>0) in
    let whole : t * m * c + c ≤ n * c = omega (arith, mul-le-mul_right c h) in
    let lines : t * c + b ≤ (t * c + b) * m = omega (arith, mul-le-mul_left (t * c + b) m>0) in
    omega arith
