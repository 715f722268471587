-- The lattice L = {(e, y) : p divides e - r·y}, and the points of a coset: any two differ by a vector of L.
-- A distance d ≥ 0 is one from the window's left edge; no line and no coset is special. Assumes nothing.
use mathlib.Core.Path.{◌≡◌, ap}
use mathlib.Core.Logic.{◌↔◌}
use Prim.Native.Nat.{ℕ, ◌+◌, ◌*◌, ◌%◌}
use native.Mathlib.Omega.{arith}
use Rattle.lattice.proofs.Congruence.{Cong, cong_eq, cong_sym, cong_trans, cong_cancel, cong_mod}

-- (-A, β) lies in L
pub record Lft (p r A β : ℕ) : Type 0 where
  pub cong : Cong p (A + r * β) 0

-- (C, δ) lies in L
pub record Rgt (p r C δ : ℕ) : Type 0 where
  pub cong : Cong p C (r * δ)

-- Y lines on, from distance d one comes to distance e
pub record Go (p r d Y e : ℕ) : Type 0 where
  pub cong : Cong p e (d + r * Y)

-- the coset t·y + κ - s has a point at distance d on line y
pub record On (p t κ s d y : ℕ) : Type 0 where
  pub cong : Cong p (d + s) (t * y + κ)

-- two points of a coset differ by a vector of L; a point and such a vector make a point
pub on_go : {p t κ s d y : ℕ} (Y e : ℕ) → On p t κ s d y → On p t κ s e (y + Y) ↔ Go p t d Y e
on_go {p} {t} {κ} {s} {d} {y} Y e h = (
  λ o. record { cong = cong_cancel s (cong_trans o.cong (cong_sym shift)) },
  λ g. record { cong = cong_trans (record { up = g.cong.up; down = g.cong.down; same = omega (arith, g.cong.same) }) shift },
)
  where
    shift : Cong p (d + t * Y + s) (t * (y + Y) + κ)
    shift = record { up = h.cong.up; down = h.cong.down; same = omega (arith, h.cong.same) }

-- and so backwards
pub on_back : {p t κ s d y Y e : ℕ} → On p t κ s e (y + Y) → Go p t d Y e → On p t κ s d y
on_back o g = record { cong = record { up = o.cong.up + g.cong.down; down = o.cong.down + g.cong.up; same = omega (arith, o.cong.same, g.cong.same) } }

-- on one line they are whole periods apart
pub on_cong : {p t κ s d e y : ℕ} → On p t κ s d y → On p t κ s e y → Cong p d e
on_cong {s = s} o o' = cong_cancel s (cong_trans o.cong (cong_sym o'.cong))

-- steps add up; the rest of a way is a way
pub go_on : {p r d Y d₁ : ℕ} (Z e : ℕ) → Go p r d Y d₁ → Go p r d₁ Z e ↔ Go p r d (Y + Z) e
go_on {p} {r} {d} {Y} {d₁} Z e h = (λ g. record { cong = cong_trans g.cong shift }, λ g. record { cong = cong_trans g.cong (cong_sym shift) })
  where
    shift : Cong p (d₁ + r * Z) (d + r * (Y + Z))
    shift = record { up = h.cong.up; down = h.cong.down; same = omega arith }

-- no line on, nothing has moved
pub go_stay : (p r d : ℕ) → Go p r d 0 d
go_stay p r d = record { cong = cong_eq p (omega arith) }

-- a vector of L is a way from every distance that has room for it
pub go_left : {p r A β d e : ℕ} → Lft p r A β → d ≡ e + A → Go p r d β e
go_left h at = record { cong = record { up = h.cong.down; down = h.cong.up; same = omega arith } }

pub go_right : {p r C δ d e : ℕ} → Rgt p r C δ → e ≡ d + C → Go p r d δ e
go_right h at = record { cong = record { up = h.cong.up; down = h.cong.down; same = omega arith } }

-- only the remainder of r matters
pub go_mod : (p t d Y e : ℕ) → Go p t d Y e ↔ Go p (t % p) d Y e
go_mod p t d Y e = (λ g. record { cong = cong_trans g.cong (cong_sym equal) }, λ g. record { cong = cong_trans g.cong equal })
  where
    m : Cong p (t % p) t
    m = cong_mod p t

    equal : Cong p (d + t % p * Y) (d + t * Y)
    equal = record { up = m.up * Y; down = m.down * Y; same = omega (arith, ap (λ x. x * Y) m.same) }
