-- What a walk goes by: the pair, or the single vector, of a window as wide as the run's or as the period, whichever is less.
-- By proposition 2 it leads from the first hit of each line to the first hit of the next line that has one. Assumes nothing.
use Prim.Native.Nat.{ℕ, ◌+◌, ◌-◌, ◌*◌, ◌/◌, ◌%◌, ◌≤◌, ◌<◌}
use native.Mathlib.Nat.{mod-lt, mod-le, div-add-mod', div-le_self, mul-div_cancel', mul-le-mul_right, zero-mul}
use native.Mathlib.Omega.{arith}
use mathlib.Core.Path.{◌≡◌, refl, ap, ap₂, ◌∙◌, subst}
use mathlib.Core.Bool.{true}
use lib.IntN.{ℤ, pos, neg_ℤ, ◌+ℤ◌, ◌-ℤ◌}
use Rattle.signed.proofs.Parts.{parts, sum, neg_up, neg_dn}
use Rattle.lattice.proofs.First.{Next}
use Rattle.lattice.proofs.Next.{next_left, next_right, next_both, next_single}
use Rattle.lattice.proofs.Pair.{Pair, extent}
use Rattle.vectors.specs.declared.Vector.{Vector}
use Rattle.vectors.specs.Vectors.{IsPair, IsSingle}
use Rattle.vectors.proofs.Bridge.{magnitudes}
use Rattle.scope.specs.declared.Run.{Run}
use Rattle.scope.specs.declared.Source.{Source}
use Rattle.scope.specs.Run.{ValidRun, ValidSource, cells_of, line_of, offset_of}
use Rattle.scope.specs.Hit.{is_hit}
use Rattle.scope.proofs.Numbering.{line_at, distance_at}
use Rattle.walk.specs.declared.Walk.{Walk}
use Rattle.walk.specs.Inner.{Short, GoesBy, Leads, Stands, Begun, Begins, width}
use Rattle.search.specs.declared.Point.{Point}
use Rattle.std.specs.Prelude.{None}
use Rattle.search.specs.Inner.{PointOf, Enters, Sought}
use Rattle.search.proofs.Cells.{inside_cells, hit_point, point_hit, point_low, sought_cell, sought_none}
use Rattle.walk.proofs.Walks.{first_point}

-- ---- the first hit of a line

module _ {run : Run} (v : ValidRun run) {source : Source} (s : ValidSource source) (cell : ℕ) where
  -- the cell of the line's first hit
  abbrev pub leading : ℕ
  leading = cell % run.window % source.period

  pub leads_in : leading < run.window
  leads_in =
      let some = v.narrow in
      omega (arith, mod-lt cell {m = run.window} (omega arith), mod-le (cell % run.window) source.period)

  row_start : cell - cell % run.window + leading ≡ cell / run.window * run.window + leading
  row_start = omega (arith, div-add-mod' cell run.window)

  pub begins : {offset : ℤ} → offset ≡ pos leading -ℤ pos (run.window / 2) → Begins run source cell (record { offset = offset; cell = record { 0 = cell - cell % run.window + leading } })
  unfolding offset_of line_of
  begins {offset} o = rw row_start (record { line = line; stands = stands })
    where
      distance : (cell / run.window * run.window + leading) % run.window ≡ leading
      distance = distance_at run (cell / run.window) leads_in

      line : (cell / run.window * run.window + leading) / run.window ≡ cell / run.window
      line = omega (arith, line_at run (cell / run.window) leads_in)

      stands : is_hit run source cell ≡ true → Stands run source (record { offset = offset; cell = record { 0 = cell / run.window * run.window + leading } })
      stands h = record {
        hit = hit_point run source (cell / run.window) leads_in (first_point run source (point_hit run source cell h));
        leftmost = rw distance (mod-lt (cell % run.window) s.ticks);
        offset = rw distance o;
      }

-- ---- the first hit of the run

-- the search from a point on the run's first line
module _ {run : Run} (v : ValidRun run) {source : Source} (s : ValidSource source) {from : Point} (o : PointOf run source from) (line : from.line ≡ run.first) where
  -- no cell lies before that line
  none_before : (from.line - run.first) * run.window ≡ 0
  none_before = let no : from.line - run.first ≡ 0 = omega arith in rw no (zero-mul run.window)

  pub begun_at : {to : Point} {offset : ℤ} → Enters source.period (run.interval % source.period) run.window run.last from to → offset ≡ pos to.distance -ℤ pos (run.window / 2) → Begun run source (record { offset = offset; cell = record { 0 = (to.line - run.first) * run.window + to.distance } })
  unfolding offset_of
  begun_at {to} {offset} h is =
      let first = rw none_before at (sought_cell v s o h).1 in
      let distance : ((to.line - run.first) * run.window + to.distance) % run.window ≡ to.distance = distance_at run (to.line - run.first) h.first.inside in
      let low = point_low v s o in
      record {
        first = first;
        stands = λ l. record { hit = first.hit l; leftmost = omega (arith, h.nearer); offset = rw distance is };
        none = λ past. absurd (omega (arith, inside_cells (to.line - run.first) v h.first.inside (omega (arith, h.moves, h.inside, line))));
      }

  pub begun_none : {offset : ℤ} → offset ≡ pos 0 → Sought source.period (run.interval % source.period) run.window run.last from None → Begun run source (record { offset = offset; cell = record { 0 = cells_of run } })
  begun_none zero h = record { first = rw none_before at (sought_none v s o h); stands = λ l. absurd (omega arith); none = λ past. zero }

-- ---- the vectors

-- what the walk's numbers are, from the vectors' offsets
cells_left : (L A : ℕ) {n : ℕ} (z : ℤ) → z ≡ neg_ℤ (pos A) → pos n ≡ pos L +ℤ z → n + A ≡ L
cells_left L A {n} z e f = omega (arith, parts, sum (pos L) z, neg_up (pos A), neg_dn (pos A))

cells_right : (L : ℕ) {n C : ℕ} (z : ℤ) → z ≡ pos C → pos n ≡ pos L +ℤ z → n ≡ L + C
cells_right L {n} {C} z e f = omega (arith, parts, sum (pos L) z)

low_edge : {x : ℤ} (z : ℤ) (A h : ℕ) → z ≡ neg_ℤ (pos A) → x ≡ (pos 0 -ℤ pos h) -ℤ z → x ≡ pos A -ℤ pos h
low_edge {x} z A h e f =
    omega (arith, parts, neg_up (pos A), neg_dn (pos A), neg_up (pos h), neg_dn (pos h), neg_up z, neg_dn z, sum (pos 0) (neg_ℤ (pos h)), sum (pos 0 -ℤ pos h) (neg_ℤ z), sum (pos A) (neg_ℤ (pos h)))

high_edge : {x : ℤ} (z : ℤ) (W C h : ℕ) → C ≤ W → z ≡ pos C → x ≡ (pos W -ℤ pos h) -ℤ z → x ≡ pos (W - C) -ℤ pos h
high_edge {x} z W C h l e f =
    omega (arith, parts, neg_up (pos h), neg_dn (pos h), neg_up z, neg_dn z, sum (pos W) (neg_ℤ (pos h)), sum (pos W -ℤ pos h) (neg_ℤ z), sum (pos (W - C)) (neg_ℤ (pos h)))

-- the lines of a pair are at most the period
pair_few : {p r W A β C δ : ℕ} → Pair p r W A β C δ → (β ≤ p) × (δ ≤ p)
pair_few {p} {r} {W} {A} {β} {C} {δ} h =
    let e = extent h in
    let a = h.basis.area in
    (omega (arith, mul-le-mul_right β e.right_some), omega (arith, mul-le-mul_right δ e.left_some))

module _ {run : Run} (v : ValidRun run) {source : Source} (s : ValidSource source) {left right : Vector} (h : IsPair source.period (run.interval % source.period) (width run source) left right) where
  pub left_small : Short left run.window
  left_small =
      let m = magnitudes h in
      let i = ap (λ (u : Vector). u.offset) m.left_is in
      let b = m.pair.below_left in
      record {
        wide = v.wide;
        few = omega (arith, (pair_few m.pair).0, s.fits);
        rises = h.left_rises;
        left = omega (arith, parts, neg_up (pos run.window), neg_dn (pos run.window), neg_up (pos m.A), neg_dn (pos m.A));
        right = omega (arith, parts, neg_up (pos m.A), neg_dn (pos m.A));
      }

  pub right_small : Short right run.window
  right_small =
      let m = magnitudes h in
      let i = ap (λ (u : Vector). u.offset) m.right_is in
      let b = m.pair.below_right in
      record {
        wide = v.wide;
        few = omega (arith, (pair_few m.pair).1, s.fits);
        rises = h.right_rises;
        left = omega (arith, parts, neg_up (pos run.window), neg_dn (pos run.window));
        right = omega (arith, parts);
      }

  pub pair_leads : {walk : Walk} → GoesBy left right run.window (width run source) walk → Leads run source walk
  pair_leads {walk} g =
      let m = magnitudes h in
      let i = ap (λ (u : Vector). u.offset) m.left_is in
      let j = ap (λ (u : Vector). u.offset) m.right_is in
      let A = m.A in
      let C = m.C in
      let a = m.pair.below_left in
      let c = m.pair.below_right in
      record {
        A = A;
        β = left.line;
        C = C;
        δ = right.line;
        from = A;
        below = width run source - C;
        left_offset = g.left_offset ∙ i;
        left_cells = cells_left (left.line * run.window) A left.offset i g.left_cells;
        right_offset = g.right_offset ∙ j;
        right_cells = cells_right (right.line * run.window) right.offset j g.right_cells;
        both_offset = g.both_offset ∙ ap₂ ◌+ℤ◌ i j;
        both_cells = g.both_cells;
        low = low_edge left.offset A (run.window / 2) i g.low;
        high = high_edge right.offset (width run source) C (run.window / 2) (omega arith) j g.high;
        from_short = omega arith;
        below_short = omega arith;
        left_short = omega arith;
        left_few = (pair_few m.pair).0;
        right_short = omega arith;
        right_few = (pair_few m.pair).1;
        goes_left = λ d in' l. (l, next_left m.pair in' (omega arith));
        goes_right = λ d in' l b. next_right m.pair (omega arith) refl;
        goes_both = λ d in' l b. (omega (arith, m.pair.wide), next_both m.pair l (omega arith) (omega (arith, m.pair.wide)));
      }

module _ {run : Run} (v : ValidRun run) {source : Source} (s : ValidSource source) {only : Vector} (h : IsSingle source.period (run.interval % source.period) (width run source) only) where
  -- p/g lines lead on, to the same distance
  onward : (d : ℕ) → d < width run source → Next source.period (run.interval % source.period) (width run source) d only.line d
  onward d l = next_single s.ticks h.is_gcd (rw h.rises (mul-div_cancel' h.g h.is_gcd.divides_right)) h.wide l

  some_width : 0 < width run source
  some_width = omega (arith, v.narrow, s.ticks)

  line_few : only.line ≤ source.period
  line_few = omega (arith, h.rises, div-le_self source.period h.g)

  pub single_small : Short only run.window
  single_small =
      let z = h.at_zero in
      record {
        wide = v.wide;
        few = omega (arith, line_few, s.fits);
        rises = (onward 0 some_width).later;
        left = omega (arith, parts, neg_up (pos run.window), neg_dn (pos run.window));
        right = omega (arith, parts);
      }

  pub single_leads : {walk : Walk} → GoesBy only only run.window (width run source) walk → Leads run source walk
  single_leads {walk} g =
      let z = h.at_zero in
      record {
        A = 0;
        β = only.line;
        C = 0;
        δ = only.line;
        from = 0;
        below = width run source - 0;
        left_offset = g.left_offset ∙ z;
        left_cells = cells_left (only.line * run.window) 0 only.offset z g.left_cells;
        right_offset = g.right_offset ∙ z;
        right_cells = cells_right (only.line * run.window) only.offset z g.right_cells;
        both_offset = g.both_offset ∙ ap₂ ◌+ℤ◌ z z;
        both_cells = g.both_cells;
        low = low_edge only.offset 0 (run.window / 2) z g.low;
        high = high_edge only.offset (width run source) 0 (run.window / 2) (omega arith) z g.high;
        from_short = omega arith;
        below_short = omega arith;
        left_short = omega arith;
        left_few = line_few;
        right_short = omega arith;
        right_few = line_few;
        goes_left = λ d in' l. (omega arith, subst (λ e. Next source.period (run.interval % source.period) (width run source) d only.line e) (omega arith) (onward d in'));
        goes_right = λ d in' l b. absurd (omega arith);
        goes_both = λ d in' l b. absurd (omega arith);
      }
