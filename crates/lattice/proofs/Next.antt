-- 002's proposition 2, for any coset: where the next point of a coset lies, within the window of a pair or of a single
-- vector. Just one of three cases applies. Assumes nothing.
use mathlib.Core.Path.{◌≡◌, sym, ◌∙◌, subst, ap}
use mathlib.Core.Logic.Iff
use mathlib.Core.Logic.{◌↔◌}
use Prim.Native.Nat.{ℕ, zero, suc, ◌+◌, ◌*◌, ◌%◌, ◌≤◌, ◌<◌, ◌∣◌}
use native.Mathlib.Nat.{mod-lt, dvd-mod_iff, le_of_dvd, dvd_refl}
use native.Mathlib.Omega.{arith}
use Rattle.lattice.proofs.Congruence.{cong_below}
use Rattle.lattice.proofs.Multiples.{cancel}
use Rattle.lattice.proofs.Differences.{Go, go_left, go_right, go_on, go_mod}
use Rattle.lattice.proofs.Law.{Steps}
use Rattle.lattice.proofs.Stage.{Stage, ended}
use Rattle.lattice.proofs.Gcd.{IsGcd, gcd_unique, go_cong, last_gcd, last_whole, last_period}
use Rattle.lattice.proofs.Pair.{Pair, Reached, reach}
use Rattle.lattice.proofs.Unique.{pair_steps}
use Rattle.lattice.proofs.First.{Next}

-- a way to a later line: where (C, δ) alone leads out of the window, a step (-A, β) is in it
lefts_some : {A β C δ d Y e : ℕ} → (w : Steps A β C δ d Y e) → 1 ≤ Y → e < d + C → β ≤ w.lefts * β
lefts_some {A} {β} {C} {δ} {d} {Y} {e} w some out = go w.lefts w.rights w.lines w.distance
  where
    go : (k l : ℕ) → Y ≡ k * β + l * δ → e + k * A ≡ d + l * C → β ≤ k * β
    go zero zero lines distance = absurd (omega arith)
    go zero (suc l) lines distance = absurd (omega arith)
    go (suc k) l lines distance = omega arith

-- where (-A, β) alone does, a step (C, δ) is
rights_some : {A β C δ d Y e : ℕ} → (w : Steps A β C δ d Y e) → 1 ≤ Y → d < A → δ ≤ w.rights * δ
rights_some {A} {β} {C} {δ} {d} {Y} {e} w some out = go w.lefts w.rights w.lines w.distance
  where
    go : (k l : ℕ) → Y ≡ k * β + l * δ → e + k * A ≡ d + l * C → δ ≤ l * δ
    go zero zero lines distance = absurd (omega arith)
    go (suc k) zero lines distance = absurd (omega arith)
    go k (suc l) lines distance = omega arith

module _ {p r W A β C δ : ℕ} (pair : Pair p r W A β C δ) where
  -- (i) d ≥ A: the next point is one step (-A, β) on
  pub next_left : {d e : ℕ} → d < W → d ≡ e + A → Next p r W d β e
  next_left {d} {e} d<W at = record {
    later = pair.lines_left;
    inside = omega arith;
    way = go_left pair.basis.lies_left at;
    least = least;
  }
    where
      least : (Z f : ℕ) → 1 ≤ Z → f < W → Go p r d Z f → β ≤ Z
      least Z f some inside g =
          let w = pair_steps pair d<W inside g in
          let wide = pair.wide in
          omega (arith, lefts_some w some (omega arith))

  -- (ii) d + C < W: the next point is one step (C, δ) on
  pub next_right : {d e : ℕ} → e < W → e ≡ d + C → Next p r W d δ e
  next_right {d} {e} e<W at = record { later = pair.lines_right; inside = e<W; way = go_right pair.basis.lies_right at; least = least }
    where
      least : (Z f : ℕ) → 1 ≤ Z → f < W → Go p r d Z f → δ ≤ Z
      least Z f some inside g =
          let w = pair_steps pair (omega arith) inside g in
          let wide = pair.wide in
          omega (arith, rights_some w some (omega arith))

  -- (iii) neither: the next point is one step of each on
  pub next_both : {d e : ℕ} → d < A → W ≤ d + C → e + A ≡ d + C → Next p r W d (β + δ) e
  next_both {d} {e} low out at = record {
    later = omega (arith, pair.lines_left);
    inside = omega (arith, pair.below_right);
    way = way;
    least = least;
  }
    where
      way : Go p r d (β + δ) e
      way = subst (λ Y. Go p r d Y e) (omega arith) ((go_on β e (go_right {e = d + C} pair.basis.lies_right (omega arith))).0 (go_left pair.basis.lies_left (omega arith)))

      least : (Z f : ℕ) → 1 ≤ Z → f < W → Go p r d Z f → β + δ ≤ Z
      least Z f some inside g =
          let w = pair_steps pair (omega (arith, pair.below_left)) inside g in
          omega (arith, lefts_some w some (omega arith), rights_some w some low)

-- g depends on the remainder of r alone
gcd_mod : {g p r : ℕ} → IsGcd g r p → IsGcd g (r % p) p
gcd_mod {g} {p} {r} h = record {
  divides_left = (dvd-mod_iff g h.divides_right).1 h.divides_left;
  divides_right = h.divides_right;
  greatest = λ d hr hp. h.greatest d ((dvd-mod_iff d hp).0 hr) hp;
}

-- with g·c = p, g the greatest common divisor, a way that keeps its distance takes a multiple of c lines
pub period : {g p r : ℕ} (c d Y : ℕ) → 0 < p → IsGcd g r p → g * c ≡ p → Go p r d Y d ↔ (c ∣ Y)
period {g} {p} {r} c d Y pos gcd whole = Iff.trans (go_mod p r d Y d) (go (reach (mod-lt r pos) (omega arith) pos))
  where
    go : Reached p (r % p) 1 → Go p (r % p) d Y d ↔ (c ∣ Y)
    go h = subst (λ x. Go p (r % p) d Y d ↔ (x ∣ Y)) same (last_period d Y end)
      where
        end : Stage p (r % p) h.side h.n 0 h.b h.c
        end = ended h.stage (omega (arith, h.below))

        same : h.c ≡ c
        same = cancel {p = h.n} (omega (arith, h.above)) (last_whole end ∙ sym whole ∙ ap (λ x. x * c) (gcd_unique (gcd_mod gcd) (last_gcd end)))

-- a window no wider than g has its points at one distance
pub single_distance : {g p r W d Y e : ℕ} → IsGcd g r p → W ≤ g → d < W → e < W → Go p r d Y e → e ≡ d
single_distance {g} gcd narrow dl el w = sym (cong_below (go_cong g gcd.divides_left gcd.divides_right w) (omega arith) (omega arith))

-- and the next point is c = p / g lines on
pub next_single : {g p r W c d : ℕ} → 0 < p → IsGcd g r p → g * c ≡ p → W ≤ g → d < W → Next p r W d c d
next_single {g} {p} {r} {W} {c} {d} pos gcd whole narrow d<W = record {
  later = some c whole;
  inside = d<W;
  way = (period c d c pos gcd whole).1 (dvd_refl c);
  least = least;
}
  where
    some : (i : ℕ) → g * i ≡ p → 1 ≤ i
    some zero e = absurd (omega arith)
    some (suc i) e = omega arith

    least : (Z f : ℕ) → 1 ≤ Z → f < W → Go p r d Z f → c ≤ Z
    least Z f z inside w = le_of_dvd z ((period c d Z pos gcd whole).0 (subst (λ x. Go p r d Z x) (single_distance gcd narrow d<W inside w) w))
