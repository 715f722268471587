-- Which distances a coset comes to: those that differ by a multiple of the greatest common divisor. Assumes nothing.
use mathlib.Core.Path.{◌≡◌, ap, subst}
use mathlib.Core.Logic.{◌↔◌}
use Prim.Native.Nat.{ℕ, ◌+◌, ◌-◌, ◌*◌, ◌<◌}
use native.Mathlib.Omega.{arith}
use Rattle.lattice.proofs.Congruence.{Cong, cong_refl, cong_trans, cong_mix}
use Rattle.lattice.proofs.Differences.{Go}
use Rattle.lattice.proofs.Stage.{Side, left, right, other, Lies, ended}
use Rattle.lattice.proofs.Gcd.{IsGcd, gcd_unique, last_gcd, go_cong}
use Rattle.lattice.proofs.Pair.{reach}

-- some lines lead n to the right, if some lines lead n to one side
turned : (s : Side) (p r n b : ℕ) → 0 < p → Lies s p r n b → (y : ℕ) × Cong p n (r * y)
turned right p r n b some l = (b, l.cong)
turned left p r n b some l =
    let q : ℕ = p - 1 in
    let whole : q + 1 ≡ p = omega arith in
    let c = l.cong in
    (b * q, record { up = q * c.down; down = n + q * c.up; same = omega (arith, ap (λ x. q * x) c.same, ap (λ x. n * x) whole) })

-- so that g, the greatest common divisor, is r·y and whole periods
gcd_turns : {g p r : ℕ} → r < p → IsGcd g r p → (y : ℕ) × Cong p g (r * y)
gcd_turns {g} {p} {r} low is =
    let end = reach {W = 1} low (omega arith) (omega arith) in
    let below = end.below in
    let stage = ended end.stage (omega arith) in
    subst (λ n. (y : ℕ) × Cong p n (r * y)) (gcd_unique (last_gcd stage) is) (turned (other end.side) p r end.n end.b (omega arith) stage.before)

-- from d one comes to e exactly if g divides their difference
pub go_somewhere : {g p r : ℕ} (d e : ℕ) → r < p → IsGcd g r p → ((Y : ℕ) × Go p r d Y e) ↔ Cong g d e
go_somewhere {g} {p} {r} d e low is = (λ way. go_cong g is.divides_left is.divides_right way.1, λ c. lead c (gcd_turns low is))
  where
    lead : Cong g d e → (y : ℕ) × Cong p g (r * y) → (Y : ℕ) × Go p r d Y e
    lead c turn =
        let q : ℕ = p - 1 in
        let whole : q + 1 ≡ p = omega arith in
        let k : ℕ = c.up + q * c.down in
        let far : Cong p e (d + k * g) = record { up = c.down * g; down = 0; same = omega (arith, c.same, ap (λ x. c.down * g * x) whole) } in
        (k * turn.0, record { cong = cong_trans far (cong_mix 1 k 0 (cong_refl p d) turn.1 (omega arith) (omega arith)) })
