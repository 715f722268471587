-- The greatest common divisor of r and p, given by its divisors; it falls out of the division sequence.
-- Assumes nothing.
use mathlib.Core.Path.{◌≡◌, sym, ap, subst}
use mathlib.Core.Logic.{◌↔◌, inl, inr}
use Prim.Native.Nat.{ℕ, ◌*◌, ◌/◌, ◌∣◌}
use native.Mathlib.Nat.{dvd-mul_right, dvd-mul_left, dvd-add_iff_left, dvd_antisymm, mul-div_cancel', dvd_of_mul-dvd-mul_right, div-eq_of_eq-mul_right}
use native.Mathlib.Omega.{arith}
pub use Rattle.lattice.specs.Gcd.{IsGcd}
use Rattle.lattice.proofs.Congruence.{Cong, cong_refl, cong_sym, cong_mix, cong_eq, cong_trans}
use Rattle.lattice.proofs.Multiples.{zero_factor}
use Rattle.lattice.proofs.Differences.{Lft, Rgt, Go}
use Rattle.lattice.proofs.Law.{Steps, law_left}
use Rattle.lattice.proofs.Stage.{Side, left, right, other, Lies, Stage, spans, bounds}

-- there is only one
pub gcd_unique : {g h a b : ℕ} → IsGcd g a b → IsGcd h a b → g ≡ h
gcd_unique {g} {h} x y = dvd_antisymm (y.greatest g x.divides_left x.divides_right) (x.greatest h y.divides_left y.divides_right)

-- a congruence holds for every divisor of its modulus
cong_divisor : {q p a b : ℕ} → q ∣ p → Cong p a b → Cong q a b
cong_divisor {q} {p} h g =
    let e : q * (p / q) ≡ p = mul-div_cancel' q h in
    record { up = g.up * (p / q); down = g.down * (p / q); same = omega (arith, g.same, ap (λ x. g.up * x) e, ap (λ x. g.down * x) e) }

-- what is divisible is congruent to 0
cong_of_dvd : {q a : ℕ} → q ∣ a → Cong q a 0
cong_of_dvd {q} {a} h = record { up = 0; down = a / q; same = omega (arith, mul-div_cancel' q h) }

-- and the other way round
dvd_of_cong : {q a : ℕ} → Cong q a 0 → q ∣ a
dvd_of_cong {q} h = (dvd-add_iff_left q (dvd-mul_left q h.up)).1 (subst (λ x. q ∣ x) (omega (arith, h.same)) (dvd-mul_left q h.down))

-- a common divisor q of r and p divides the distance of every vector of L, and so every way of a coset
module _ (q : ℕ) {p r : ℕ} (hr : q ∣ r) (hp : q ∣ p) where
  -- a vector to the left
  pub dvd_left : {A β : ℕ} → Lft p r A β → q ∣ A
  dvd_left {β = β} l = dvd_of_cong (cong_mix 1 β (r * β) (cong_divisor hp l.cong) (cong_sym (cong_of_dvd hr)) (omega arith) (omega arith))

  -- a vector to the right
  dvd_right : {C δ : ℕ} → Rgt p r C δ → q ∣ C
  dvd_right {δ = δ} l = dvd_of_cong (cong_mix 1 δ (r * δ) (cong_divisor hp l.cong) (cong_of_dvd hr) (omega arith) (omega arith))

  dvd_lies : (s : Side) {m : ℕ} (c : ℕ) → Lies s p r m c → q ∣ m
  dvd_lies left c l = dvd_left l
  dvd_lies right c l = dvd_right l

  -- the two ends of a way
  pub go_cong : {d Y e : ℕ} → Go p r d Y e → Cong q d e
  go_cong {Y = Y} g = cong_mix 1 Y (r * Y) (cong_sym (cong_divisor hp g.cong)) (cong_sym (cong_of_dvd hr)) (omega arith) (omega arith)

-- where m is 0, n·c is p
pub last_whole : {p r : ℕ} {s : Side} {n b c : ℕ} → Stage p r s n 0 b c → n * c ≡ p
last_whole st = omega (arith, st.area)

-- so that c is p / n
pub last_lines : {p r : ℕ} {s : Side} {n b c : ℕ} → Stage p r s n 0 b c → c ≡ p / n
last_lines {n = n} st =
    let falls = st.falls in
    sym (div-eq_of_eq-mul_right {n = n} (omega arith) (sym (last_whole st)))

-- r·c is a multiple of p
last_turn : {p r : ℕ} {s : Side} {n b c : ℕ} → Stage p r s n 0 b c → Cong p (r * c) 0
last_turn {p} {s = left} st = cong_trans (cong_eq p (omega arith)) st.last.cong
last_turn {s = right} st = cong_sym st.last.cong

-- and n, which divides r as well, is the greatest common divisor
pub last_gcd : {p r : ℕ} {s : Side} {n b c : ℕ} → Stage p r s n 0 b c → IsGcd n r p
last_gcd {p} {r} {s} {n} {b} {c} st = record {
  divides_left = dvd_of_mul-dvd-mul_right n st.some (subst (λ x. x ∣ r * c) (sym (last_whole st)) (dvd_of_cong (last_turn st)));
  divides_right = subst (λ x. n ∣ x) (last_whole st) (dvd-mul_right n c);
  greatest = λ d hr hp. dvd_lies d hr hp (other s) b st.before;
}

-- there a way that keeps its distance takes a multiple of c lines
pub last_period : {p r : ℕ} {s : Side} {n b c : ℕ} (d Y : ℕ) → Stage p r s n 0 b c → Go p r d Y d ↔ (c ∣ Y)
last_period {p} {r} {s} {n} {b} {c} d Y st = (to s st, from)
  where
    multiple : (l : ℕ) → Y ≡ l * c → c ∣ Y
    multiple l e = subst (λ x. c ∣ x) (sym e) (dvd-mul_left c l)

    to : (s : Side) → Stage p r s n 0 b c → Go p r d Y d → c ∣ Y
    to left st g =
        let falls = st.falls in
        let w : Steps 0 c n b d Y d = law_left (bounds st).positive (spans st) g (omega arith) (omega arith) (inr (omega arith)) in
        let z : w.rights ≡ 0 = zero_factor {a = n} (omega arith) (omega arith) in
        multiple w.lefts (omega (arith, ap (λ x. x * b) z))
    to right st g =
        let falls = st.falls in
        let w : Steps n b 0 c d Y d = law_left (bounds st).positive (spans st) g (omega arith) (omega arith) (inl st.some) in
        let z : w.lefts ≡ 0 = zero_factor {a = n} (omega arith) (omega arith) in
        multiple w.rights (omega (arith, ap (λ x. x * b) z))

    from : c ∣ Y → Go p r d Y d
    from h =
        let e : c * (Y / c) ≡ Y = mul-div_cancel' c h in
        record { cong = cong_mix (Y / c) 1 0 (cong_sym (last_turn st)) (cong_refl p d) (omega arith) (omega (arith, ap (λ x. r * x) e)) }
