-- The two loops of the listing. At the head of a line the next hit is known with its offset, and the line's first hit with
-- it; within the line the hits are a period apart, up to the line's end; from there the walk leads to the next line.
-- What is stored in a signed local is read back as `to_z w64 (of_z w64 z)`, which is z where z fits. Assumes nothing.
use Prim.Native.Nat.{ℕ, ◌+◌, ◌-◌, ◌*◌, ◌/◌, ◌%◌, ◌≤◌, ◌<◌, min}
use native.Mathlib.Nat.{mod-lt, div-add-mod', mul-le-mul_right}
use native.Mathlib.Omega.{arith}
use mathlib.Core.Path.{◌≡◌, refl, ap, ◌∙◌, subst}
use mathlib.Core.Bool.{true, false}
use mathlib.Core.List.{List}
use lib.ListN.{length, set}
use lib.IntN.{ℤ, pos, neg_ℤ, ◌+ℤ◌, ◌-ℤ◌}
use lib.Signed.{lt_z}
use mir.Syntax.{w64}
use mir.Val.{SFits, to_z, of_z}
use mir.Facts.{to_z-of_z, to_z_pos}
use Rattle.signed.proofs.Parts.{parts, sum, apart, neg_up, neg_dn, lt_z_true, lt_z_false}
use Rattle.lattice.proofs.Row.{leftmost_next}
use Rattle.scope.specs.declared.Run.{Run}
use Rattle.scope.specs.declared.Source.{Source}
use Rattle.scope.specs.Run.{ValidRun, ValidSource, cells_of, line_of, offset_of}
use Rattle.scope.specs.Hit.{is_hit}
use Rattle.walk.specs.declared.LineHit.{LineHit}
use Rattle.walk.specs.declared.Walk.{Walk}
use Rattle.std.specs.Prelude.{Some, None}
use Rattle.hits.specs.Inner.{ListsFrom}
use Rattle.walk.specs.Inner.{Leads, Stands, Walking, NextLine}
use Rattle.search.proofs.Cells.{Points, rows_le, point_hit, hit_point, missed, own_line, inside_cells}
use Rattle.walk.proofs.Walks.{apart_by, fits_at}
use Rattle.hits.proofs.Kept.{Kept, kept_over, kept_write, kept_more, kept_done}

-- what stays
pub record Fixed (run : Run) (source : Source) (all period : ℕ) (end : ℤ) (walk : Walk) : Type 0 where
  pub valid : ValidRun run
  pub source_valid : ValidSource source
  pub all_is : all ≡ cells_of run
  pub period_is : period ≡ source.period
  pub end_is : end ≡ pos run.window -ℤ pos (run.window / 2)
  pub leads : Leads run source walk

-- a hit cell, its offset, and the first hit of its line
pub record Running (run : Run) (source : Source) (at : LineHit) (cell : ℕ) (offset : ℤ) : Type 0 where
  pub stands : Stands run source at
  pub line : at.cell.0 / run.window ≡ cell / run.window
  pub hit : is_hit run source cell ≡ true
  pub offset_is : offset ≡ offset_of run cell

-- at the head of a line: the next hit, or none
pub record Head (run : Run) (source : Source) (start : ℕ) (before room : List ℕ) (n cell : ℕ) (offset : ℤ) (at : LineHit) : Type 0 where
  pub kept : Kept run source start before room n cell
  pub running : cell < cells_of run → Running run source at cell offset

-- within the line of `at`, at distance e from the left edge, which may be past the line's end: as far past the right edge
pub record Inside (run : Run) (source : Source) (start : ℕ) (before room : List ℕ) (n cell : ℕ) (past : ℤ) (at : LineHit) : Type 0 where
  pub stands : Stands run source at
  pub below : at.cell.0 < cells_of run
  pub e : ℕ
  pub cell_is : cell ≡ at.cell.0 / run.window * run.window + e
  pub past_is : past ≡ pos e -ℤ pos run.window
  pub on : Points run source e (run.first + at.cell.0 / run.window)
  pub near : e < run.window + source.period
  pub kept : Kept run source start before room n (at.cell.0 / run.window * run.window + min e run.window)

module _ {run : Run} {source : Source} {start all period : ℕ} {end : ℤ} {walk : Walk} (fixed : Fixed run source all period end walk) {before : List ℕ} where
  -- at the head of a line
  module _ {room : List ℕ} {n cell : ℕ} {offset : ℤ} {at : LineHit} (in' : cell < all) (h : Head run source start before room n cell offset at) where
    here : Running run source at cell offset
    here = h.running (omega (arith, fixed.all_is))

    below : at.cell.0 < cells_of run
    below =
        let v = fixed.valid in
        let some = v.narrow in
        let m = mod-lt at.cell.0 {m = run.window} (omega arith) in
        omega (arith, div-add-mod' at.cell.0 run.window, inside_cells (at.cell.0 / run.window) {e = at.cell.0 % run.window} v m (rw here.line (own_line v (omega (arith, fixed.all_is)))))

    pub walking : Walking walk at
    walking = record {
      run = run;
      source = source;
      valid = fixed.valid;
      source_valid = fixed.source_valid;
      leads = fixed.leads;
      stands = here.stands;
      inside = below;
    }

    -- the offset, counted from the right edge
    from_edge : (offset -ℤ end) ≡ pos (cell % run.window) -ℤ pos run.window
    unfolding offset_of
    from_edge =
        let o = here.offset_is in
        let e = fixed.end_is in
        let h = pos (run.window / 2) in
        let w = pos run.window in
        let d = pos (cell % run.window) in
        omega (arith, parts, sum offset (neg_ℤ end), neg_up end, neg_dn end, sum w (neg_ℤ h), sum d (neg_ℤ h), sum d (neg_ℤ w), neg_up h, neg_dn h, neg_up w, neg_dn w)

    pub edge_fits : SFits w64 (offset -ℤ end)
    edge_fits =
        let w = fixed.valid.wide in
        let some = fixed.valid.narrow in
        fits_at (cell % run.window) run.window from_edge (omega (arith, mod-lt cell {m = run.window} (omega arith))) w

    -- into the line
    pub enter : Inside run source start before room n cell (to_z w64 (of_z w64 (offset -ℤ end))) at
    enter =
        let some = fixed.valid.narrow in
        let line = here.line in
        let m = mod-lt cell {m = run.window} (omega arith) in
        let there : cell ≡ at.cell.0 / run.window * run.window + cell % run.window = omega (arith, div-add-mod' cell run.window, ap (λ k. k * run.window) line) in
        let same : at.cell.0 / run.window * run.window + min (cell % run.window) run.window ≡ cell = omega (arith, there) in
        record {
          stands = here.stands;
          below = below;
          e = cell % run.window;
          cell_is = there;
          past_is = to_z-of_z edge_fits ∙ from_edge;
          on = rw line (point_hit run source cell here.hit);
          near = omega arith;
          kept = rw same h.kept;
        }

  -- ---- within the line

  module _ {room : List ℕ} {n cell : ℕ} {past : ℤ} {at : LineHit} (i : Inside run source start before room n cell past at) where
    by_distance : past +ℤ pos run.window ≡ pos i.e
    by_distance = rw i.past_is (apart_by i.e run.window)

    -- the test of the inner loop
    pub within : lt_z past (pos 0) ≡ true → i.e < run.window
    within t = let l = lt_z_true past (pos 0) t in let d = by_distance in omega (arith, parts, sum past (pos run.window))

    pub beyond : lt_z past (pos 0) ≡ false → run.window ≤ i.e
    beyond t = let l = lt_z_false past (pos 0) t in let d = by_distance in omega (arith, parts, sum past (pos run.window))

    module _ (in' : i.e < run.window) where
      pub cell_in : cell < cells_of run
      cell_in = rw i.cell_is (inside_cells (at.cell.0 / run.window) fixed.valid in' (own_line fixed.valid i.below))

      cell_hit : is_hit run source cell ≡ true
      cell_hit = rw i.cell_is (hit_point run source (at.cell.0 / run.window) in' i.on)

      kept_here : Kept run source start before room n cell
      kept_here = let same : at.cell.0 / run.window * run.window + min i.e run.window ≡ cell = omega (arith, i.cell_is) in rw same at i.kept

      -- the next offset, counted from the right edge
      period_held : to_z w64 period ≡ pos source.period
      period_held = rw fixed.period_is (to_z_pos w64 (omega (arith, fixed.source_valid.fits)))

      pub past_fits : SFits w64 (past +ℤ to_z w64 period)
      past_fits =
          let b = by_distance in
          let w = fixed.valid.wide in
          let f = fixed.source_valid.fits in
          rw period_held (omega (arith, parts, sum past (pos run.window), sum past (pos source.period), apart past, apart (past +ℤ pos source.period)))

      past_next : to_z w64 (of_z w64 (past +ℤ to_z w64 period)) ≡ pos (i.e + source.period) -ℤ pos run.window
      past_next =
          let b = by_distance in
          let w = pos run.window in
          let e : past +ℤ pos source.period ≡ pos (i.e + source.period) -ℤ w = omega (arith, parts, sum past w, sum past (pos source.period), sum (pos (i.e + source.period)) (neg_ℤ w), neg_up w, neg_dn w) in
          to_z-of_z past_fits ∙ rw period_held e

      -- no hit between this one and the next, or the line's end
      gap : (z : ℕ) → cell + 1 ≤ z → z < at.cell.0 / run.window * run.window + min (i.e + source.period) run.window → is_hit run source z ≡ false
      gap z a b = missed fixed.valid source z (λ k d h is o.
          let some = fixed.valid.narrow in
          let up = rows_le {k = k} {l = at.cell.0 / run.window} {I = run.window} {e = run.window - 1} (omega arith) (omega arith) in
          let down = rows_le {k = at.cell.0 / run.window} {l = k} h (omega (arith, i.cell_is)) in
          let same : k ≡ at.cell.0 / run.window = omega arith in
          let far = (leftmost_next fixed.source_valid.ticks i.on).least d (omega (arith, i.cell_is, ap (λ x. x * run.window) same)) (subst (λ x. Points run source d (run.first + x)) same o) in
          omega (arith, ap (λ x. x * run.window) same))

      pub write : n < length room → Inside run source start before (set room n cell) (n + 1) (cell + period) (to_z w64 (of_z w64 (past +ℤ to_z w64 period))) at
      write l =
          let k = kept_write l cell_in cell_hit kept_here in
          record {
            stands = i.stands;
            below = i.below;
            e = i.e + source.period;
            cell_is = omega (arith, i.cell_is, fixed.period_is);
            past_is = past_next;
            on = (leftmost_next fixed.source_valid.ticks i.on).on;
            near = omega arith;
            kept = kept_over (omega (arith, i.cell_is, fixed.source_valid.ticks)) gap k;
          }

    -- from the line's end to the next line
    pub leave : {to : LineHit} → run.window ≤ i.e → NextLine run source at to → Head run source start before room n to.cell.0 (to_z w64 (of_z w64 to.offset)) to
    unfolding offset_of line_of
    leave {to} out nl =
        let v = fixed.valid in
        let w = v.wide in
        let some = v.narrow in
        let m = mod-lt to.cell.0 {m = run.window} (omega arith) in
        let s = nl.stands in
        let end' : at.cell.0 / run.window * run.window + min i.e run.window ≡ (at.cell.0 / run.window + 1) * run.window = omega arith in
        let lines : at.cell.0 / run.window + 1 ≤ to.cell.0 / run.window = omega (arith, nl.later) in
        record {
          kept = kept_over (omega (arith, mul-le-mul_right run.window lines, div-add-mod' to.cell.0 run.window)) (λ z a b.
              let zm = mod-lt z {m = run.window} (omega arith) in
              nl.none z (omega (arith, rows_le {k = at.cell.0 / run.window + 1} {l = z / run.window} zm (omega (arith, div-add-mod' z run.window)))) b) (rw end' at i.kept);
          running = λ h. record {
            stands = s;
            line = refl;
            hit = s.hit;
            offset_is = to_z-of_z (fits_at (to.cell.0 % run.window) (run.window / 2) s.offset (omega arith) (omega arith)) ∙ s.offset;
          };
        }

-- ---- the ends

module _ {run : Run} {source : Source} {start all period : ℕ} {end : ℤ} {walk : Walk} (fixed : Fixed run source all period end walk) {before room : List ℕ} {n cell : ℕ} {at : LineHit} where
  -- the walk went past the last cell
  pub ran_out : {offset : ℤ} → Head run source start before room n cell offset at → all ≤ cell → ListsFrom run source start before (record { count = n; next = None }) room
  ran_out h out = let is = fixed.all_is in kept_done (omega arith) h.kept

  -- the room was full within a line
  pub filled : {past : ℤ} (i : Inside run source start before room n cell past at) → i.e < run.window → n ≡ length room → ListsFrom run source start before (record { count = n; next = Some (record { 0 = cell }) }) room
  filled i in' e = kept_more e (cell_in fixed i in') (cell_hit fixed i in') (kept_here fixed i in')

-- the walk gets on: from a hit of a line to one of a later line
pub gets_on : {run : Run} {source : Source} {at to : LineHit} {cell : ℕ} {offset : ℤ} → ValidRun run → Running run source at cell offset → NextLine run source at to → cell < to.cell.0
unfolding line_of
gets_on {run} {source} {at} {to} {cell} v r nl =
    let some = v.narrow in
    let m = mod-lt cell {m = run.window} (omega arith) in
    let lines : cell / run.window + 1 ≤ to.cell.0 / run.window = omega (arith, nl.later, r.line) in
    omega (arith, mul-le-mul_right run.window lines, div-add-mod' cell run.window, div-add-mod' to.cell.0 run.window)
