-- The walk from the first hit of a line to the first hit of the next line that has one, told of the code's steps and hits.
-- The hits are at distances below the window's width or the period, whichever is less: there a line has at most one.
-- Assumes nothing.
use Prim.Native.Nat.{ℕ, ◌+◌, ◌-◌, ◌*◌, ◌/◌, ◌%◌, ◌^◌, ◌≤◌, ◌<◌}
use native.Mathlib.Nat.{mod-lt, mod-le, div-add-mod', mul-le-mul, mul-le-mul_right}
use native.Mathlib.Omega.{arith}
use mathlib.Core.Path.{◌≡◌, sym, subst, ap}
use mathlib.Core.Bool.{true, false}
use lib.IntN.{ℤ, pos, neg_ℤ, ◌+ℤ◌, ◌-ℤ◌}
use lib.Signed.{◌≤ℤ◌, ◌<ℤ◌, le_z, lt_z}
use mir.Syntax.{w64}
use mir.Val.{SFits, to_z, of_z}
use mir.Facts.{to_z-of_z}
use Rattle.signed.proofs.Parts.{parts, sum, apart, neg_up, neg_dn, le_z_order, le_z_false, lt_z_true, lt_z_false}
use Rattle.lattice.proofs.Congruence.{cong_mod, cong_below}
use Rattle.lattice.proofs.Differences.{on_cong}
use Rattle.lattice.proofs.First.{Next}
use Rattle.lattice.proofs.Row.{on_apart}
use Rattle.scope.specs.declared.Run.{Run}
use Rattle.scope.specs.declared.Source.{Source}
use Rattle.scope.specs.Run.{ValidRun, ValidSource, line_of, offset_of}
use Rattle.scope.specs.Hit.{is_hit}
use Rattle.scope.proofs.Limits.{cells_few}
use Rattle.scope.proofs.Numbering.{line_at, distance_at}
use Rattle.walk.specs.declared.Step.{Step}
use Rattle.walk.specs.declared.LineHit.{LineHit}
use Rattle.walk.specs.declared.Walk.{Walk}
use Rattle.walk.specs.Inner.{Movable, Moved, Leads, Stands, Walking, NextLine, width}
use Rattle.search.proofs.Cells.{Points, rows_le, hit_point, miss_point, point_hit, way, arrive}

-- the first point of a line, from any of its points
pub first_point : (run : Run) (source : Source) {d j : ℕ} → Points run source d j → Points run source (d % source.period) j
first_point run source {d} o = on_apart (cong_mod source.period d) o

-- ---- where a step leads

module _ {run : Run} (v : ValidRun run) {source : Source} (s : ValidSource source) {at : LineHit} (to : LineHit) (here : Stands run source at) {Y e : ℕ} (next : Next source.period (run.interval % source.period) (width run source) (at.cell.0 % run.window) Y e) (is : to.cell.0 ≡ (at.cell.0 / run.window + Y) * run.window + e) where
  inside : e < run.window
  inside = omega (arith, next.inside)

  there : Points run source e (run.first + (at.cell.0 / run.window + Y))
  there = subst (λ x. Points run source e x) (omega arith) (arrive run source (point_hit run source at.cell.0 here.hit) next.way)

  stands : to.offset ≡ pos e -ℤ pos (run.window / 2) → Stands run source to
  unfolding offset_of
  stands o =
      let distance : to.cell.0 % run.window ≡ e = rw is (distance_at run (at.cell.0 / run.window + Y) inside) in
      record {
        hit = rw is (hit_point run source (at.cell.0 / run.window + Y) inside there);
        leftmost = omega (arith, next.inside);
        offset = rw distance o;
      }

  rises : at.cell.0 < to.cell.0
  rises =
      let some = v.narrow in
      let d = mod-lt at.cell.0 {m = run.window} (omega arith) in
      let more = mul-le-mul_right run.window next.later in
      omega (arith, is, div-add-mod' at.cell.0 run.window)

  later : line_of run at.cell.0 < line_of run to.cell.0
  unfolding line_of
  later =
      let l : line_of run to.cell.0 ≡ run.first + (at.cell.0 / run.window + Y) = rw is (line_at run (at.cell.0 / run.window + Y) inside) in
      omega (arith, next.later)

  none : (z : ℕ) → line_of run at.cell.0 < line_of run z → z < to.cell.0 → is_hit run source z ≡ false
  unfolding line_of
  none z later before = miss_point run source z (λ o.
      let some = v.narrow in
      let zd = mod-lt z {m = run.window} (omega arith) in
      let zp = mod-lt (z % run.window) s.ticks in
      let zl = mod-le (z % run.window) source.period in
      let l : run.first + at.cell.0 / run.window ≤ run.first + z / run.window = omega arith in
      let w = way run source l (point_hit run source at.cell.0 here.hit) (first_point run source o) in
      let past = next.least (run.first + z / run.window - (run.first + at.cell.0 / run.window)) (z % run.window % source.period) (omega arith) (omega arith) w in
      let low = rows_le {k = z / run.window} {l = at.cell.0 / run.window + Y} inside (omega (arith, is, div-add-mod' z run.window)) in
      let same : z / run.window ≡ at.cell.0 / run.window + Y = omega arith in
      let alike = cong_below (on_cong (first_point run source o) (subst (λ x. Points run source e (run.first + x)) (sym same) there)) zp (omega (arith, next.inside)) in
      omega (arith, is, div-add-mod' z run.window, ap (λ x. x * run.window) same))

  landed : to.offset ≡ pos e -ℤ pos (run.window / 2) → NextLine run source at to
  landed o = record { stands = stands o; later = later; rises = rises; none = none }

-- ---- the steps are small, and so is every sum of the walk

-- d - h, for a distance d
pub apart_by : (d h : ℕ) → (pos d -ℤ pos h) +ℤ pos h ≡ pos d
apart_by d h = omega (arith, parts, sum (pos d) (neg_ℤ (pos h)), neg_up (pos h), neg_dn (pos h), sum (pos d -ℤ pos h) (pos h))

-- two offsets and their distances are in one order
shifted_le : (x y : ℤ) (h : ℕ) {a b : ℕ} → x +ℤ pos h ≡ pos a → y +ℤ pos h ≡ pos b → x ≤ℤ y → a ≤ b
shifted_le x y h {a} {b} e f l = omega (arith, parts, sum x (pos h), sum y (pos h))

shifted_lt : (x y : ℤ) (h : ℕ) {a b : ℕ} → x +ℤ pos h ≡ pos a → y +ℤ pos h ≡ pos b → x <ℤ y → a < b
shifted_lt x y h {a} {b} e f l = omega (arith, parts, sum x (pos h), sum y (pos h))

-- an offset at distance d, a step to the left, a step to the right, and both
left_of : (x z : ℤ) (h A : ℕ) {d : ℕ} → x +ℤ pos h ≡ pos d → z ≡ x +ℤ neg_ℤ (pos A) → A ≤ d → z ≡ pos (d - A) -ℤ pos h
left_of x z h A {d} e f l =
    omega (arith, parts, sum x (pos h), sum x (neg_ℤ (pos A)), neg_up (pos A), neg_dn (pos A), sum (pos (d - A)) (neg_ℤ (pos h)), neg_up (pos h), neg_dn (pos h))

right_of : (x z : ℤ) (h C : ℕ) {d : ℕ} → x +ℤ pos h ≡ pos d → z ≡ x +ℤ pos C → z ≡ pos (d + C) -ℤ pos h
right_of x z h C {d} e f = omega (arith, parts, sum x (pos h), sum x (pos C), sum (pos (d + C)) (neg_ℤ (pos h)), neg_up (pos h), neg_dn (pos h))

across : (x z : ℤ) (h A C : ℕ) {d : ℕ} → x +ℤ pos h ≡ pos d → z ≡ x +ℤ (neg_ℤ (pos A) +ℤ pos C) → A ≤ d + C → z ≡ pos (d + C - A) -ℤ pos h
across x z h A C {d} e f l =
    omega (arith, parts, sum x (pos h), sum x (neg_ℤ (pos A) +ℤ pos C), sum (neg_ℤ (pos A)) (pos C), neg_up (pos A), neg_dn (pos A), sum (pos (d + C - A)) (neg_ℤ (pos h)), neg_up (pos h), neg_dn (pos h))

pub near : (d h : ℕ) → d ≤ 4096 → h ≤ 4096 → (neg_ℤ (pos 4096) ≤ℤ (pos d -ℤ pos h)) × ((pos d -ℤ pos h) ≤ℤ pos 4096)
near d h a b =
    let s = sum (pos d) (neg_ℤ (pos h)) in
    let u = neg_up (pos h) in
    let n = neg_dn (pos h) in
    let m = neg_dn (pos 4096) in
    let k = neg_up (pos 4096) in
    (omega (arith, parts), omega (arith, parts))

pub near_fits : (z : ℤ) → neg_ℤ (pos 4096) ≤ℤ z → z ≤ℤ pos 4096 → SFits w64 z
near_fits z l h = omega (arith, parts, apart z, neg_dn (pos 4096), neg_up (pos 4096))

pub fits_at : {z : ℤ} (d h : ℕ) → z ≡ pos d -ℤ pos h → d ≤ 4096 → h ≤ 4096 → SFits w64 z
fits_at {z} d h e a b = let n = near d h a b in rw e (near_fits (pos d -ℤ pos h) n.0 n.1)

pub wider : (z : ℤ) → (neg_ℤ (pos 4096) ≤ℤ z) × (z ≤ℤ pos 4096) → (neg_ℤ (pos 8192) ≤ℤ z) × (z ≤ℤ pos 8192)
wider z h = (omega (arith, parts, h.0, neg_dn (pos 4096), neg_up (pos 4096), neg_dn (pos 8192), neg_up (pos 8192)), omega (arith, parts, h.1))

-- the numbers of a walk and of the hit where it stands
pub record Near (walk : Walk) (at : LineHit) : Type 0 where
  pub offset : (neg_ℤ (pos 4096) ≤ℤ at.offset) × (at.offset ≤ℤ pos 4096)
  pub low : (neg_ℤ (pos 4096) ≤ℤ walk.low) × (walk.low ≤ℤ pos 4096)
  pub high : (neg_ℤ (pos 4096) ≤ℤ walk.high) × (walk.high ≤ℤ pos 4096)
  pub left : (neg_ℤ (pos 4096) ≤ℤ walk.left.offset) × (walk.left.offset ≤ℤ pos 4096)
  pub right : (neg_ℤ (pos 4096) ≤ℤ walk.right.offset) × (walk.right.offset ≤ℤ pos 4096)
  pub both : (neg_ℤ (pos 8192) ≤ℤ walk.both.offset) × (walk.both.offset ≤ℤ pos 8192)
  pub left_cells : walk.left.cells ≤ 8796093018112
  pub right_cells : walk.right.cells ≤ 8796093022208
  pub both_cells : walk.both.cells ≤ 2 ^ 44

small : {run : Run} {source : Source} {walk : Walk} {at : LineHit} → ValidRun run → ValidSource source → Leads run source walk → Stands run source at → Near walk at
unfolding offset_of
small {run} {source} {walk} {at} v s l here =
    let w = v.wide in
    let some = v.narrow in
    let half : run.window / 2 ≤ 4096 = omega arith in
    let d = mod-lt at.cell.0 {m = run.window} (omega arith) in
    let a = l.left_short in
    let c = l.right_short in
    let β = mul-le-mul l.left_few w in
    let δ = mul-le-mul l.right_few w in
    let p = s.fits in
    record {
      offset = rw here.offset (near (at.cell.0 % run.window) (run.window / 2) (omega arith) half);
      low = rw l.low (near l.from (run.window / 2) (omega (arith, l.from_short)) half);
      high = rw l.high (near l.below (run.window / 2) (omega (arith, l.below_short)) half);
      left = rw l.left_offset (omega (arith, parts, neg_dn (pos 4096), neg_up (pos 4096), neg_dn (pos l.A), neg_up (pos l.A)), omega (arith, parts, neg_dn (pos l.A), neg_up (pos l.A)));
      right = rw l.right_offset (omega (arith, parts, neg_dn (pos 4096), neg_up (pos 4096)), omega (arith, parts));
      both = rw l.both_offset (omega (arith, parts, neg_dn (pos 8192), neg_up (pos 8192), neg_dn (pos l.A), neg_up (pos l.A), sum (neg_ℤ (pos l.A)) (pos l.C)), omega (arith, parts, neg_dn (pos l.A), neg_up (pos l.A), sum (neg_ℤ (pos l.A)) (pos l.C)));
      left_cells = omega (arith, l.left_cells);
      right_cells = omega (arith, l.right_cells);
      both_cells = omega (arith, l.left_cells, l.right_cells, l.both_cells);
    }

-- ---- the three cases

module _ {walk : Walk} {at : LineHit} (w : Walking walk at) where
  sizes : Near walk at
  sizes = small w.valid w.source_valid w.leads w.stands

  -- a step that is small may be taken
  movable : (step : Step) → (neg_ℤ (pos 8192) ≤ℤ step.offset) × (step.offset ≤ℤ pos 8192) → step.cells ≤ 2 ^ 44 → Movable at step
  movable step o c =
      let few = cells_few w.valid in
      let i = w.inside in
      record { offset_low = sizes.offset.0; offset_high = sizes.offset.1; step_low = o.0; step_high = o.1; cell = omega arith; cells = c }

  pub movable_left : Movable at walk.left
  movable_left = movable walk.left (wider walk.left.offset sizes.left) (omega (arith, sizes.left_cells))

  pub movable_right : Movable at walk.right
  movable_right = movable walk.right (wider walk.right.offset sizes.right) (omega (arith, sizes.right_cells))

  pub movable_both : Movable at walk.both
  movable_both = movable walk.both sizes.both sizes.both_cells

  -- no step leads far
  pub lands_low : {step : Step} {to : LineHit} → Movable at step → Moved at step to → to.cell.0 < 2 ^ 46
  lands_low h m = omega (arith, m.cell, h.cell, h.cells)

module _ {run : Run} (v : ValidRun run) {source : Source} (s : ValidSource source) {walk : Walk} (l : Leads run source walk) {at : LineHit} (here : Stands run source at) where
  -- the distance at which the walk stands, by its offset
  distance_in : at.cell.0 % run.window < width run source
  distance_in = let some = v.narrow in let d = mod-lt at.cell.0 {m = run.window} (omega arith) in omega (arith, here.leftmost)

  by_distance : at.offset +ℤ pos (run.window / 2) ≡ pos (at.cell.0 % run.window)
  unfolding offset_of
  by_distance = rw here.offset (apart_by (at.cell.0 % run.window) (run.window / 2))

  held : (z : ℤ) → (neg_ℤ (pos 4096) ≤ℤ z) × (z ≤ℤ pos 4096) → to_z w64 (of_z w64 z) ≡ z
  held z h = to_z-of_z (near_fits z h.0 h.1)

  low_is : walk.low +ℤ pos (run.window / 2) ≡ pos l.from
  low_is = rw l.low (apart_by l.from (run.window / 2))

  high_is : walk.high +ℤ pos (run.window / 2) ≡ pos l.below
  high_is = rw l.high (apart_by l.below (run.window / 2))

  -- the two tests, passed and failed
  low_true : le_z (to_z w64 (of_z w64 walk.low)) (to_z w64 (of_z w64 at.offset)) ≡ true → l.from ≤ at.cell.0 % run.window
  low_true t = let n = small v s l here in shifted_le walk.low at.offset (run.window / 2) low_is by_distance ((le_z_order walk.low at.offset).0 (rw (held walk.low n.low, held at.offset n.offset) at t))

  low_false : le_z (to_z w64 (of_z w64 walk.low)) (to_z w64 (of_z w64 at.offset)) ≡ false → at.cell.0 % run.window < l.from
  low_false t = let n = small v s l here in shifted_lt at.offset walk.low (run.window / 2) by_distance low_is (le_z_false walk.low at.offset (rw (held walk.low n.low, held at.offset n.offset) at t))

  high_true : lt_z (to_z w64 (of_z w64 at.offset)) (to_z w64 (of_z w64 walk.high)) ≡ true → at.cell.0 % run.window < l.below
  high_true t = let n = small v s l here in shifted_lt at.offset walk.high (run.window / 2) by_distance high_is (lt_z_true at.offset walk.high (rw (held at.offset n.offset, held walk.high n.high) at t))

  high_false : lt_z (to_z w64 (of_z w64 at.offset)) (to_z w64 (of_z w64 walk.high)) ≡ false → l.below ≤ at.cell.0 % run.window
  high_false t = let n = small v s l here in shifted_le walk.high at.offset (run.window / 2) high_is by_distance (lt_z_false at.offset walk.high (rw (held at.offset n.offset, held walk.high n.high) at t))

  -- the test whether the step to the left leads out of the window, as a caller makes it
  pub out_true : lt_z (to_z w64 (of_z w64 at.offset)) (to_z w64 (of_z w64 walk.low)) ≡ true → at.offset <ℤ walk.low
  out_true t = let n = small v s l here in lt_z_true at.offset walk.low (rw (held at.offset n.offset, held walk.low n.low) at t)

  pub out_false : lt_z (to_z w64 (of_z w64 at.offset)) (to_z w64 (of_z w64 walk.low)) ≡ false → at.offset <ℤ walk.low → ⊥
  out_false t h =
      let n = small v s l here in
      let k = lt_z_false at.offset walk.low (rw (held at.offset n.offset, held walk.low n.low) at t) in
      omega (arith, parts)

  pub step_left : {to : LineHit} → le_z (to_z w64 (of_z w64 walk.low)) (to_z w64 (of_z w64 at.offset)) ≡ true → Moved at walk.left to → NextLine run source at to
  step_left {to} t m =
      let g = l.goes_left (at.cell.0 % run.window) distance_in (low_true t) in
      let a = g.0 in
      landed v s to here g.1
      (omega (arith, m.cell, l.left_cells, div-add-mod' at.cell.0 run.window))
      (left_of at.offset to.offset (run.window / 2) l.A by_distance (rw l.left_offset at m.offset) a)

  pub step_right : {to : LineHit} → le_z (to_z w64 (of_z w64 walk.low)) (to_z w64 (of_z w64 at.offset)) ≡ false → lt_z (to_z w64 (of_z w64 at.offset)) (to_z w64 (of_z w64 walk.high)) ≡ true → Moved at walk.right to → NextLine run source at to
  step_right {to} t u m =
      let g = l.goes_right (at.cell.0 % run.window) distance_in (low_false t) (high_true u) in
      landed v s to here g
      (omega (arith, m.cell, l.right_cells, div-add-mod' at.cell.0 run.window))
      (right_of at.offset to.offset (run.window / 2) l.C by_distance (rw l.right_offset at m.offset))

  pub step_both : {to : LineHit} → le_z (to_z w64 (of_z w64 walk.low)) (to_z w64 (of_z w64 at.offset)) ≡ false → lt_z (to_z w64 (of_z w64 at.offset)) (to_z w64 (of_z w64 walk.high)) ≡ false → Moved at walk.both to → NextLine run source at to
  step_both {to} t u m =
      let g = l.goes_both (at.cell.0 % run.window) distance_in (low_false t) (high_false u) in
      let a = g.0 in
      landed v s to here g.1
      (omega (arith, m.cell, l.both_cells, l.left_cells, l.right_cells, div-add-mod' at.cell.0 run.window))
      (across at.offset to.offset (run.window / 2) l.A l.C by_distance (rw l.both_offset at m.offset) a)
