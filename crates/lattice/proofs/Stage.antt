-- The division sequence of a period p and a remainder r, two successive vectors u, v at a time, in magnitudes.
-- n and m are the distances that u and v move, to opposite sides, b and c their lines; the area n·c + m·b is always p.
-- Measure: m, which falls from a stage to the next. Assumes nothing.
use mathlib.Core.Path.{◌≡◌, sym, ap, subst}
use Prim.Native.Nat.{ℕ, zero, suc, ◌+◌, ◌*◌, ◌/◌, ◌%◌, ◌≤◌, ◌<◌}
use native.Mathlib.Nat.{mod-lt, div-add-mod', mul-le-mul_left, mul-le-mul_right}
use native.Mathlib.Omega.{arith}
use Rattle.lattice.proofs.Congruence.{cong_eq, cong_mix, cong_sym}
use Rattle.lattice.proofs.Differences.{Lft, Rgt}
use Rattle.lattice.proofs.Law.{Basis}

-- the side to which a vector moves
pub data Side : Type 0 where
  left right : Side

-- the opposite side
abbrev pub other : Side → Side
other left = right
other right = left

-- the vector that moves m to the side s in c lines lies in L
abbrev pub Lies : Side → (p r m c : ℕ) → Type 0
Lies left p r m c = Lft p r m c
Lies right p r m c = Rgt p r m c

-- v = (m to the side s, c) is the last vector of the sequence so far, u = (n to the other side, b) the one before
pub record Stage (p r : ℕ) (s : Side) (n m b c : ℕ) : Type 0 where
  pub falls : m < n
  pub rises : b ≤ c
  pub some : 1 ≤ c
  pub area : n * c + m * b ≡ p
  pub before : Lies (other s) p r n b
  pub last : Lies s p r m c

-- the first two vectors are (-p, 0) and (r, 1)
pub start : {p r : ℕ} → r < p → Stage p r right p r 0 1
start {p} {r} h = record {
  falls = h;
  rises = omega arith;
  some = omega arith;
  area = omega arith;
  before = record { cong = record { up = 0; down = 1; same = omega arith } };
  last = record { cong = cong_eq p (omega arith) };
}

-- a stage whose m is 0
pub ended : {p r : ℕ} {s : Side} {n m b c : ℕ} → Stage p r s n m b c → m ≡ 0 → Stage p r s n 0 b c
ended {p} {r} {s} {n} {m} {b} {c} st e = subst (λ x. Stage p r s n x b c) e st

-- u + a·v lies in L, on u's side, k being what is left of n
slide : {p r : ℕ} {s : Side} {n m b c : ℕ} (a k : ℕ) → Stage p r s n m b c → n ≡ a * m + k → Lies (other s) p r k (b + a * c)
slide {s = left} {m = m} a k st e = record { cong = cong_mix 1 a (a * m) st.before.cong (cong_sym st.last.cong) (omega arith) (omega arith) }
slide {s = right} {m = m} a k st e = record { cong = cong_mix 1 a (a * m) st.before.cong (cong_sym st.last.cong) (omega arith) (omega arith) }

-- u + a·v and v span the same area as u and v
slide_area : {p r : ℕ} {s : Side} {n m b c : ℕ} (a k : ℕ) → Stage p r s n m b c → n ≡ a * m + k → k * c + m * (b + a * c) ≡ p
slide_area {c = c} a k st e = omega (arith, st.area, ap (λ x. x * c) e)

-- the next vector is u + a·v, a being the quotient of n and m
pub next_with : {p r : ℕ} {s : Side} {n m b c : ℕ} (a k : ℕ) → Stage p r s n m b c → n ≡ a * m + k → k < m → Stage p r (other s) m k c (b + a * c)
next_with {p} {r} {s} {n} {m} {b} {c} a k st e l = record {
  falls = l;
  rises = omega (arith, more);
  some = omega (arith, more, st.some);
  area = omega (arith, slide_area a k st e);
  before = back s st.last;
  last = slide a k st e;
}
  where
    back : (s : Side) → Lies s p r m c → Lies (other (other s)) p r m c
    back left h = h
    back right h = h

    more : c ≤ a * c
    more = first a e
      where
        first : (i : ℕ) → n ≡ i * m + k → c ≤ i * c
        first zero z = absurd (omega (arith, st.falls))
        first (suc i) z = omega arith

-- the stage of u and v gives the stage of v and the next vector
pub next : {p r : ℕ} {s : Side} {n m b c : ℕ} → 0 < m → Stage p r s n m b c → Stage p r (other s) m (n % m) c (b + n / m * c)
next {n = n} {m} h st = next_with (n / m) (n % m) st (sym (div-add-mod' n m)) (mod-lt n h)

-- w = (k to the other side, e) and v = (m to the side s, c) span L
abbrev pub Spans : Side → (p r k e m c : ℕ) → Type 0
Spans left p r k e m c = Basis p r m c k e
Spans right p r k e m c = Basis p r k e m c

-- u + a·v and v span L
pub slide_spans : {p r : ℕ} {s : Side} {n m b c : ℕ} (a k : ℕ) → Stage p r s n m b c → n ≡ a * m + k → Spans s p r k (b + a * c) m c
slide_spans {s = left} a k st e = record { lies_left = st.last; lies_right = slide a k st e; area = omega (arith, slide_area a k st e) }
slide_spans {s = right} a k st e = record { lies_left = slide a k st e; lies_right = st.last; area = omega (arith, slide_area a k st e) }

-- u and v span L
pub spans : {p r : ℕ} {s : Side} {n m b c : ℕ} → Stage p r s n m b c → Spans s p r n b m c
spans {s = left} st = record { lies_left = st.last; lies_right = st.before; area = omega arith }
spans {s = right} st = record { lies_left = st.before; lies_right = st.last; area = omega arith }

-- the distances and lines of a stage are at most p
pub record Bounds (p n c : ℕ) : Type 0 where
  pub whole : n * c ≤ p
  pub distance : n ≤ p
  pub lines : c ≤ p
  pub positive : 0 < p

-- since n·c is a part of the area
pub bounds : {p r : ℕ} {s : Side} {n m b c : ℕ} → Stage p r s n m b c → Bounds p n c
bounds {n = n} {m} {b} {c} st =
    let area = st.area in
    let falls = st.falls in
    let some = st.some in
    let wide : n ≤ n * c = omega (arith, mul-le-mul_left n some) in
    let long : c ≤ n * c = omega (arith, mul-le-mul_right {m = 1} {n = n} c (omega arith)) in
    omega arith

-- and so is m·(b + a·c) after a slide
pub slide_bound : {p r : ℕ} {s : Side} {n m b c : ℕ} (a k : ℕ) → Stage p r s n m b c → 0 < m → n ≡ a * m + k → b + a * c ≤ p
slide_bound {b = b} {c} a k st h e = omega (arith, slide_area a k st e, mul-le-mul_right (b + a * c) h)
