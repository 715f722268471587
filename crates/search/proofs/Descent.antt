-- How a point is carried down the division sequence, told of the code's vectors and points: the laws of crate `lattice`,
-- with the bounds that keep every sum small. Assumes nothing.
use Prim.Native.Nat.{ℕ, ◌+◌, ◌-◌, ◌*◌, ◌≤◌, ◌<◌, max}
use native.Mathlib.Omega.{arith}
use mathlib.Core.Path.{◌≡◌, refl, ap, subst}
use mathlib.Core.Bool.{true, false}
use Rattle.std.specs.Prelude.{Option, Some, None}
use lib.IntN.{pos, nat_abs}
use lib.Signed.{lt_z}
use Rattle.lattice.proofs.Multiples.{Above}
use Rattle.lattice.proofs.Differences.{Go, go_on}
use Rattle.lattice.proofs.Stage.{Side, left, right, Stage, ended, bounds}
use Rattle.lattice.proofs.First.{first_here, first_after}
use Rattle.lattice.proofs.Transitions.{last_never, jump_right, jump_left, turn_right, turn_left, moved}
use Rattle.vectors.specs.declared.Vector.{Vector}
use Rattle.vectors.specs.Inner.{next_of, Successive, Division}
use Rattle.vectors.proofs.Sequence.{later, staged, side_left, side_right}
use Rattle.search.specs.declared.Point.{Point}
use Rattle.search.specs.Inner.{Approaching, Nearer, Seeking, Sought}

-- ---- a point nearer to the window

pub whole_few : {u v : Vector} → Division u v → nat_abs u.offset ≤ 2147483647
whole_few d =
    let f = d.small in
    let b = bounds (staged d.at) in
    omega arith

-- a move of t steps of v, and perhaps one of u, keeps to small numbers
pub record Turned (u v : Vector) (t : ℕ) : Type 0 where
  pub distance : t * nat_abs v.offset ≤ 2147483647
  pub lines : t * v.line + u.line ≤ 2147483647
  pub whole : nat_abs u.offset ≤ 2147483647

turned : {u v : Vector} {t : ℕ} → Division u v → 0 < nat_abs v.offset → t * nat_abs v.offset < nat_abs u.offset → Turned u v t
turned d some h =
    let f = d.small in
    let m = moved (staged d.at) some h in
    let b = bounds (staged d.at) in
    record { distance = omega arith; lines = omega arith; whole = omega arith }

module _ {u v : Vector} {at : Point} {window : ℕ} (h : Approaching u v at window) where
  pub near_same : {p r : ℕ} → at.distance < nat_abs v.offset → Nearer p r v window at at
  near_same l = record {
    bound = at.distance + 1;
    lines = 0;
    wide = omega (arith, h.outside);
    first = first_here (omega arith);
    moves = omega arith;
    below = omega arith;
    nearer = omega arith;
    few = omega arith;
  }

  pub right_turns : {t : ℕ} → nat_abs v.offset ≤ at.distance → Above (nat_abs u.offset - at.distance - 1) (nat_abs v.offset) t → Turned u v t × (nat_abs u.offset ≤ at.distance + t * nat_abs v.offset)
  right_turns l turn =
      let k = turn_right l h.below turn in
      (turned h.division h.some k.0, k.1)

  pub left_turns : {t : ℕ} → nat_abs v.offset ≤ at.distance → Above (at.distance - max (nat_abs v.offset) window) (nat_abs v.offset) t → Turned u v t × (t * nat_abs v.offset ≤ at.distance)
  left_turns l turn =
      let o = h.outside in
      let k = turn_left {B = max (nat_abs v.offset) window} (omega arith) (omega arith) h.below turn in
      (turned h.division h.some k.0, k.1)

  -- the stage of u and v, whose side the sign of v's offset tells
  abbrev Stages : ℕ → ℕ → Side → Type 0
  Stages p r s = Stage p r s (nat_abs u.offset) (nat_abs v.offset) u.line v.line

  pub near_right : {p r t : ℕ} → lt_z v.offset (pos 0) ≡ false → nat_abs v.offset ≤ at.distance → Above (nat_abs u.offset - at.distance - 1) (nat_abs v.offset) t → Successive p r u v → Nearer p r v window at (record { distance = at.distance + t * nat_abs v.offset - nat_abs u.offset; line = at.line + (t * v.line + u.line) })
  near_right {p} {r} {t} e l turn s =
      let st : Stages p r right = subst (Stages p r) (side_right s h.some e) (staged s) in
      let k = turn_right l h.below turn in
      let over = k.1 in
      let j = jump_right {e = at.distance + t * nat_abs v.offset - nat_abs u.offset} st l h.below turn (omega arith) in
      let f = moved st h.some k.0 in
      record {
        bound = at.distance;
        lines = t * v.line + u.line;
        wide = h.outside;
        first = j.0;
        moves = refl;
        below = omega (arith, j.1);
        nearer = omega (arith, j.0.inside);
        few = omega arith;
      }

  pub near_left : {p r t : ℕ} → lt_z v.offset (pos 0) ≡ true → nat_abs v.offset ≤ at.distance → Above (at.distance - max (nat_abs v.offset) window) (nat_abs v.offset) t → Successive p r u v → Nearer p r v window at (record { distance = at.distance - t * nat_abs v.offset; line = at.line + t * v.line })
  near_left {p} {r} {t} e l turn s =
      let st : Stages p r left = subst (Stages p r) (side_left s e) (staged s) in
      let o = h.outside in
      let k = turn_left {B = max (nat_abs v.offset) window} (omega arith) (omega arith) h.below turn in
      let over = k.1 in
      let j = jump_left {B = max (nat_abs v.offset) window} {e = at.distance - t * nat_abs v.offset} st (omega arith) h.below turn (omega arith) in
      let f = moved st h.some k.0 in
      record {
        bound = max (nat_abs v.offset) window;
        lines = t * v.line;
        wide = omega arith;
        first = j.0;
        moves = refl;
        below = j.0.inside;
        nearer = omega arith;
        few = omega arith;
      }

-- ---- what a search comes to

-- where the search goes on from a nearer point
pub seeking : {u v : Vector} {at to : Point} {window last : ℕ} → Seeking u v at window last → 0 < nat_abs v.offset → ((p r : ℕ) → Successive p r u v → Nearer p r v window at to) → Seeking v (next_of u v) to window last
seeking h some near =
    let d = h.division in
    record {
      division = later d some;
      below = omega (arith, (near d.p d.r d.at).below);
      short = h.short;
    }

-- past the last line
pub sought_past : {p r window last : ℕ} {at : Point} → last < at.line → Sought p r window last at None
sought_past h = λ Z f l g. omega arith

-- within the window
pub sought_here : {p r window last : ℕ} {at : Point} → at.line ≤ last → at.distance < window → Sought p r window last at (Some at)
sought_here h l = record { lines = 0; first = first_here l; moves = omega arith; nearer = omega arith; inside = h }

-- v's offset is 0
pub sought_never : {p r window last : ℕ} {u v : Vector} (at : Point) → Successive p r u v → v.offset ≡ pos 0 → at.distance < max (nat_abs u.offset) window → window ≤ at.distance → Sought p r window last at None
sought_never at s e near out =
    let never = last_never {d = at.distance} (ended (staged s) (ap nat_abs e)) (omega arith) in
    λ Z f l g. absurd (omega (arith, never.outside Z f g))

-- from a point nearer on
pub sought_on : {p r window : ℕ} {v : Vector} {at to : Point} (last : ℕ) (found : Option Point) → Nearer p r v window at to → Sought p r window last to found → Sought p r window last at found
sought_on last (Some q) n s = record {
  lines = n.lines + s.lines;
  first = first_after n.wide n.first s.first;
  moves = omega (arith, n.moves, s.moves);
  nearer = omega (arith, n.nearer, s.nearer);
  inside = s.inside;
}
sought_on {p} {r} {window} {at = at} {to} last None n s = λ Z f l g.
    let past : n.lines ≤ Z = n.first.least Z f (omega (arith, n.wide)) g in
    omega (arith, n.moves, s (Z - n.lines) f l (rest Z f past g))
  where
    rest : (Z f : ℕ) → n.lines ≤ Z → Go p r at.distance Z f → Go p r to.distance (Z - n.lines) f
    rest Z f past g =
        let e : Z ≡ n.lines + (Z - n.lines) = omega arith in
        (go_on (Z - n.lines) f n.first.way).1 (subst (λ x. Go p r at.distance x f) e g)
