-- 002's proposition 2, told of the hits of a source in a window: where a pair exists, the next hit after (i, j) is a step
-- (α, β), a step (γ, δ) or both on, and just one of its cases applies. Where there is a single vector, it leads to the next hit.
-- Assumes nothing.
use Prim.Native.Nat.{ℕ, ◌+◌, ◌-◌, ◌*◌, ◌/◌, ◌%◌, ◌≤◌, ◌<◌}
use native.Mathlib.Nat.{mul-div_cancel'}
use native.Mathlib.Omega.{arith}
use mathlib.Core.Path.{◌≡◌, refl, ap}
use lib.IntN.{ℤ, pos, neg_ℤ, nat_abs, ◌+ℤ◌, ◌-ℤ◌}
use lib.Signed.{◌≤ℤ◌, ◌<ℤ◌}
use Rattle.signed.proofs.Parts.{parts, sum, apart, neg_up, neg_dn}
use Rattle.lattice.proofs.First.{Next}
use Rattle.lattice.proofs.Next.{next_left, next_right, next_both, next_single}
use Rattle.vectors.specs.declared.Vector.{Vector}
use Rattle.vectors.specs.Vectors.{IsPair, IsSingle}
use Rattle.vectors.proofs.Bridge.{magnitudes, nonneg}
use Rattle.scope.specs.declared.Run.{Run}
use Rattle.scope.specs.declared.Source.{Source}
use Rattle.scope.specs.Run.{ValidRun, ValidSource}
use Rattle.scope.specs.Hit.{Hits}
use Rattle.scope.proofs.Limits.{halves}
use Rattle.scope.proofs.Hits.{hits_on}
use Rattle.hits.specs.Proposition.{InWindow, NextHit, Cases}
use Rattle.search.proofs.Cells.{Points, on_points, way, arrive}

module _ {run : Run} (v : ValidRun run) (source : Source) where
  -- an offset of the window, by its distance from the left edge
  pub record Far (i : ℤ) : Type 0 where
    pub d : ℕ
    pub is : i +ℤ pos (run.window / 2) ≡ pos d
    pub below : d < run.window

  pub far : {i : ℤ} → InWindow run i → Far i
  far {i} w =
      let h = pos (run.window / 2) in
      let l = w.left in
      let r = w.right in
      let s = sum i h in
      let low : pos 0 ≤ℤ (i +ℤ h) = omega (arith, parts, neg_up h, neg_dn h) in
      let is = nonneg (i +ℤ h) low in
      record { d = nat_abs (i +ℤ h); is = is; below = omega (arith, parts, halves v, apart i) }

  pub point : (i : ℤ) {j d : ℕ} → i +ℤ pos (run.window / 2) ≡ pos d → Hits run source i j → Points run source d j
  point i {j} {d} e h = (on_points run source d j).0 ((hits_on run source i j d e).0 h)

  -- the next point of the lattice is the next hit
  hop : (i i' : ℤ) {j d Y e : ℕ} → i +ℤ pos (run.window / 2) ≡ pos d → Hits run source i j → Next source.period (run.interval % source.period) run.window d Y e → i' +ℤ pos (run.window / 2) ≡ pos e → NextHit run source j i' (j + Y)
  hop i i' {j} {d} {Y} {e} is h next is' =
      let half = pos (run.window / 2) in
      let b = next.inside in
      record {
        hits = (hits_on run source i' (j + Y) e is').1 ((on_points run source e (j + Y)).1 (arrive run source (point i is h) next.way));
        inside = record {
          left = omega (arith, parts, sum i' half, neg_up half, neg_dn half);
          right = omega (arith, parts, sum i' half, halves v);
        };
        later = omega (arith, next.later);
        none = λ i'' j'' w l l' h''.
            let f = far w in
            omega (arith, next.least (j'' - j) f.d (omega arith) f.below (way run source (omega arith) (point i is h) (point i'' f.is h'')));
      }

-- ---- the tests and the targets of proposition 2, by distances

module _ (i z : ℤ) (h A d : ℕ) (is : i +ℤ pos h ≡ pos d) (α : z ≡ neg_ℤ (pos A)) where
  at_left : (neg_ℤ (pos h) -ℤ z) ≤ℤ i → A ≤ d
  at_left t = omega (arith, parts, sum i (pos h), neg_up (pos h), neg_dn (pos h), neg_up (pos A), neg_dn (pos A), neg_up z, neg_dn z, sum (neg_ℤ (pos h)) (neg_ℤ z))

  before_left : i <ℤ (neg_ℤ (pos h) -ℤ z) → d < A
  before_left t = omega (arith, parts, sum i (pos h), neg_up (pos h), neg_dn (pos h), neg_up (pos A), neg_dn (pos A), neg_up z, neg_dn z, sum (neg_ℤ (pos h)) (neg_ℤ z))

  moved_left : A ≤ d → (i +ℤ z) +ℤ pos h ≡ pos (d - A)
  moved_left l = omega (arith, parts, sum i (pos h), sum i z, sum (i +ℤ z) (pos h), neg_up (pos A), neg_dn (pos A))

module _ (i z : ℤ) (h W C d : ℕ) (is : i +ℤ pos h ≡ pos d) (γ : z ≡ pos C) where
  at_right : i <ℤ ((neg_ℤ (pos h) +ℤ pos W) -ℤ z) → d + C < W
  at_right t = omega (arith, parts, sum i (pos h), neg_up (pos h), neg_dn (pos h), neg_up z, neg_dn z, sum (neg_ℤ (pos h)) (pos W), sum (neg_ℤ (pos h) +ℤ pos W) (neg_ℤ z))

  past_right : ((neg_ℤ (pos h) +ℤ pos W) -ℤ z) ≤ℤ i → W ≤ d + C
  past_right t = omega (arith, parts, sum i (pos h), neg_up (pos h), neg_dn (pos h), neg_up z, neg_dn z, sum (neg_ℤ (pos h)) (pos W), sum (neg_ℤ (pos h) +ℤ pos W) (neg_ℤ z))

moved_right : (i z : ℤ) (h C d : ℕ) → i +ℤ pos h ≡ pos d → z ≡ pos C → (i +ℤ z) +ℤ pos h ≡ pos (d + C)
moved_right i z h C d is γ = omega (arith, parts, sum i (pos h), sum i z, sum (i +ℤ z) (pos h))

moved_both : (i y z : ℤ) (h A C d : ℕ) → i +ℤ pos h ≡ pos d → y ≡ neg_ℤ (pos A) → z ≡ pos C → A ≤ d + C → ((i +ℤ y) +ℤ z) +ℤ pos h ≡ pos (d + C - A)
moved_both i y z h A C d is α γ l =
    omega (arith, parts, sum i (pos h), sum i y, sum (i +ℤ y) z, sum ((i +ℤ y) +ℤ z) (pos h), neg_up (pos A), neg_dn (pos A))

-- "002's proposition 2 gives the next hit after (i, j)", where a pair exists.
pub proposition_two : {run : Run} {source : Source} {left right : Vector} {i : ℤ} {j : ℕ} → ValidRun run → IsPair source.period (run.interval % source.period) run.window left right → InWindow run i → Hits run source i j → Cases run source left right i j
proposition_two {run} {source} {left} {right} {i} {j} v pair w h =
    let m = magnitudes pair in
    let f = far v source w in
    let A = m.A in
    let C = m.C in
    let half = pos (run.window / 2) in
    let is = f.is in
    let in' = f.below in
    let α = ap (λ (u : Vector). u.offset) m.left_is in
    let γ = ap (λ (u : Vector). u.offset) m.right_is in
    let wide = m.pair.wide in
    let low : (neg_ℤ half -ℤ left.offset) ≤ℤ i → A ≤ f.d = λ t. at_left i left.offset (run.window / 2) A f.d is α t in
    let below : i <ℤ (neg_ℤ half -ℤ left.offset) → f.d < A = λ t. before_left i left.offset (run.window / 2) A f.d is α t in
    let high : i <ℤ ((neg_ℤ half +ℤ pos run.window) -ℤ right.offset) → f.d + C < run.window = λ t. at_right i right.offset (run.window / 2) run.window C f.d is γ t in
    let above : ((neg_ℤ half +ℤ pos run.window) -ℤ right.offset) ≤ℤ i → run.window ≤ f.d + C = λ t. past_right i right.offset (run.window / 2) run.window C f.d is γ t in
    record {
      by_left = λ t. let a = low t in hop v source i (i +ℤ left.offset) is h (next_left m.pair {e = f.d - A} in' (omega arith)) (moved_left i left.offset (run.window / 2) A f.d is α a);
      by_right = λ t. let a = high t in hop v source i (i +ℤ right.offset) is h (next_right m.pair a refl) (moved_right i right.offset (run.window / 2) C f.d is γ);
      by_both = λ t u. let a = below t in let b = above u in hop v source i ((i +ℤ left.offset) +ℤ right.offset) is h (next_both m.pair {e = f.d + C - A} a b (omega arith)) (moved_both i left.offset right.offset (run.window / 2) A C f.d is α γ (omega arith));
      one = λ t u. let a = low t in let b = high u in omega arith;
    }

-- "A single vector leads from each hit to the next."
pub single_next : {run : Run} {source : Source} {only : Vector} {i : ℤ} {j : ℕ} → ValidRun run → ValidSource source → IsSingle source.period (run.interval % source.period) run.window only → InWindow run i → Hits run source i j → NextHit run source j i (j + only.line)
single_next {source = source} {only} {i} v s one w h =
    let f = far v source w in
    let whole : one.g * only.line ≡ source.period = rw one.rises (mul-div_cancel' one.g one.is_gcd.divides_right) in
    hop v source i i f.is h (next_single s.ticks one.is_gcd whole one.wide f.below) f.is
