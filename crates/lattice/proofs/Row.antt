-- The points of a coset on one line, for every period: they lie p apart, and the first at or right of a distance is
-- less than a period from it. Nothing here needs a window no wider than the period. Assumes nothing.
use mathlib.Core.Path.{subst}
use Prim.Native.Nat.{ℕ, ◌+◌, ◌-◌, ◌*◌, ◌%◌, ◌≤◌, ◌<◌}
use native.Mathlib.Omega.{arith}
use Rattle.lattice.proofs.Congruence.{Cong, cong_trans, cong_least, cong_mod}
use Rattle.lattice.proofs.Differences.{On, on_cong}

-- the first point on line y at a distance d₀ or more is at e
pub record Leftmost (p t κ s y d₀ e : ℕ) : Type 0 where
  pub from : d₀ ≤ e
  pub on : On p t κ s e y
  pub least : (f : ℕ) → d₀ ≤ f → On p t κ s f y → e ≤ f

-- whole periods from a point is another
pub on_apart : {p t κ s d e y : ℕ} → Cong p e d → On p t κ s d y → On p t κ s e y
on_apart g h = record { cong = cong_trans (record { up = g.up; down = g.down; same = omega (arith, g.same) }) h.cong }

-- every line has a point, at a distance below p
pub on_line : {p s : ℕ} (t κ y : ℕ) → s ≤ p → On p t κ s ((t * y + (κ + (p - s))) % p) y
on_line {p} {s} t κ y le =
    on_apart (cong_mod p (t * y + (κ + (p - s)))) (record { cong = record { up = 0; down = 1; same = omega arith } })

-- k periods right of a point of the line, and less than one right of d₀
pub leftmost : {p t κ s y d : ℕ} (d₀ k : ℕ) → d₀ ≤ d + k * p → d + k * p < d₀ + p → On p t κ s d y → Leftmost p t κ s y d₀ (d + k * p)
leftmost {p} {t} {κ} {s} {y} {d} d₀ k from near h = record { from = from; on = on; least = least }
  where
    on : On p t κ s (d + k * p) y
    on = on_apart (record { up = 0; down = k; same = omega arith }) h

    least : (f : ℕ) → d₀ ≤ f → On p t κ s f y → d + k * p ≤ f
    least f l o =
        let same = on_cong o on in
        let far : Cong p (f - d₀) (d + k * p - d₀) = record { up = same.up; down = same.down; same = omega (arith, same.same) } in
        omega (arith, cong_least far (omega arith))

-- after a point comes the one p further right
pub leftmost_next : {p t κ s y d : ℕ} → 0 < p → On p t κ s d y → Leftmost p t κ s y (d + 1) (d + p)
leftmost_next {p} {t} {κ} {s} {y} {d} pos h = subst (λ e. Leftmost p t κ s y (d + 1) e) (omega arith) (leftmost (d + 1) 1 (omega arith) (omega arith) h)
