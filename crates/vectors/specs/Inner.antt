-- Document 01, "The sequence of 002", two successive vectors u and v at a time: what the inner steps of `find_basis` and of the
-- search for the first hit go by; and what `find_basis` is asked with and tells.
use Rattle.std.specs.Prelude.{◌≡◌, ℕ, ◌+◌, ◌-◌, ◌*◌, ◌/◌, ◌≤◌, ◌<◌, ℤ, pos, negsuc, neg_ℤ, nat_abs, ◌+ℤ◌, ◌*ℤ◌}
use Rattle.lattice.proofs.Stage.{Side, left, right, other, Stage}
use Rattle.vectors.specs.declared.Vector.{Vector}
use Rattle.vectors.specs.declared.Turn.{Turn}
use Rattle.vectors.specs.Vectors.{vector, IsPair, IsSingle}
use Rattle.vectors.specs.declared.Basis.{Basis}
use Rattle.vectors.specs.declared.Basis.TheVariants.{Two, One}

-- Two successive vectors.
abbrev pub turn : Vector → Vector → Turn
turn before last = record { before = before; last = last }

-- "start with (-p, 0) and (r, 1)".
abbrev pub first_two : ℕ → ℕ → Turn
first_two p r = turn (vector (neg_ℤ (pos p)) 0) (vector (pos r) 1)

-- u plus q times v.
abbrev pub plus_times : Vector → ℕ → Vector → Vector
plus_times u q v = record { offset = u.offset +ℤ pos q *ℤ v.offset; line = u.line + q * v.line }

-- "each next vector is the one before the last, plus the last times the quotient of absolute first entries, rounded to zero".
abbrev pub next_of : Vector → Vector → Vector
next_of u v = plus_times u (nat_abs u.offset / nat_abs v.offset) v

-- 002's proof: u plus a times v, a "the smallest integer with" |u's offset| - a·|v's offset| below the window.
abbrev pub partner_of : Vector → Vector → ℕ → Vector
partner_of u v window = plus_times u ((nat_abs u.offset - window) / nat_abs v.offset + 1) v

-- n ticks to the side to which the offset leads.
abbrev pub alongside : ℤ → ℕ → ℤ
alongside (pos _) n = pos n
alongside (negsuc _) n = neg_ℤ (pos n)

-- n ticks to the left or to the right, as an offset.
abbrev pub toward : Side → ℕ → ℤ
toward left n = neg_ℤ (pos n)
toward right n = pos n

-- The vector moves n to the side s in c lines.
pub record Moves (s : Side) (n c : ℕ) (v : Vector) : Type 0 where
  pub offset : v.offset ≡ toward s n
  pub line : v.line ≡ c

-- u and v are a stage of the division of p and r: they lead to opposite sides, lie in the lattice and span the area p.
pub record Successive (p r : ℕ) (u v : Vector) : Type 0 where
  pub side : Side
  pub n : ℕ
  pub m : ℕ
  pub b : ℕ
  pub c : ℕ
  pub stage : Stage p r side n m b c
  pub before : Moves (other side) n b u
  pub last : Moves side m c v

-- They are so for some period within the limits.
pub record Division (u v : Vector) : Type 0 where
  pub p : ℕ
  pub r : ℕ
  pub at : Successive p r u v
  pub small : p ≤ 2147483647

-- And q times v, whose offset is not 0, reaches no further than u.
pub record Reaches (u : Vector) (q : ℕ) (v : Vector) : Type 0 where
  pub division : Division u v
  pub some : 0 < nat_abs v.offset
  pub reach : q * nat_abs v.offset ≤ nat_abs u.offset

-- And u reaches past the window.
pub record Ready (window : ℕ) (u v : Vector) : Type 0 where
  pub division : Division u v
  pub width : 1 ≤ window
  pub past : window ≤ nat_abs u.offset

-- t is a stage whose last vector stays within the window, while the one before it does not.
pub record Stopped (p r window : ℕ) (t : Turn) : Type 0 where
  pub at : Successive p r t.before t.last
  pub within : nat_abs t.last.offset < window
  pub past : window ≤ nat_abs t.before.offset

-- Whatever division u and v are a stage of, t is where it stops.
abbrev pub Divided : ℕ → Vector → Vector → Turn → Type 0
Divided window u v t = (p r : ℕ) → Successive p r u v → Stopped p r window t

-- The division was stopped at v, whose offset is not 0.
pub record Open (window : ℕ) (u v : Vector) : Type 0 where
  pub division : Division u v
  pub within : nat_abs v.offset < window
  pub past : window ≤ nat_abs u.offset
  pub some : 0 < nat_abs v.offset

-- It is asked with a remainder below the period and a window no wider than it.
pub record ValidSpan (p r I : ℕ) : Type 0 where
  pub remainder : r < p
  pub some : 1 ≤ I
  pub window : I ≤ p
  pub small : p ≤ 2147483647

-- What the basis has to be: the pair, or the single vector where there is no pair.
abbrev pub Spans : ℕ → ℕ → ℕ → Basis → Type 0
Spans p r I (Two u v) = IsPair p r I u v
Spans p r I (One v) = IsSingle p r I v
