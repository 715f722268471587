-- Which lines are blanked. Each is known to be or not, a blanked line is one of the run's, and on a line of the run the guard cells are a
-- part of the map, from the lowest offset's distance to the highest's. Assumes nothing.
use Prim.Native.Nat.{ℕ, zero, suc, ◌+◌, ◌-◌, ◌*◌, ◌/◌, ◌%◌, ◌≤◌, ◌<◌}
use native.Mathlib.Nat.{div-lt_iff_lt-mul, mul-le-mul_left, zero-mul}
use native.Mathlib.Decide.{ℕ_discrete, dec_le, dec_lt, map_dec}
use native.Mathlib.Omega.{arith}
use mathlib.Core.Path.{◌≡◌, sym, ap, ◌∙◌}
use mathlib.Core.Logic.Dec
use mathlib.Core.Logic.Iff
use mathlib.Core.Logic.{◌↔◌}
use mathlib.Core.List.{List}
use lib.IntN.{ℤ, pos, ◌+ℤ◌}
use lib.ListN.{length, get_or, take, drop, length-take, length-drop}
use lib.Seq.{get_or-take, get_or-drop}
use Rattle.signed.proofs.Parts.{parts, sum, le_z_known}
use Rattle.scope.specs.declared.Run.{Run}
use Rattle.scope.specs.Run.{lines_of, cells_of, line_of, offset_of}
use Rattle.scope.proofs.Numbering.{offset_distance, cell_parts, line_at, distance_at}
use Rattle.blanking.specs.declared.Guard.{Guard}
use Rattle.blanking.specs.declared.Stretch.{Stretch}
use Rattle.blanking.specs.Stretches.{Blanked, MaximalStretches}
use Rattle.blanking.specs.Inner.{Within, Guarded, Reaches}
use Rattle.blanking.proofs.Stretches.{stretches_exist}

-- ---- every line is known to be blanked or not

-- one of the numbers below n is so, or none is
some_known : {So : ℕ → Type 0} → ((x : ℕ) → Dec (So x)) → (n : ℕ) → Dec ((x : ℕ) × (x < n) × So x)
some_known dec zero = no (λ s. omega (arith, s.1))
some_known {So} dec (suc n) = go (dec n) (some_known dec n)
  where
    go : Dec (So n) → Dec ((x : ℕ) × (x < n) × So x) → Dec ((x : ℕ) × (x < suc n) × So x)
    go (yes so) below = yes (n, omega arith, so)
    go (no not) (yes s) = yes (s.0, omega (arith, s.1), s.2)
    go (no not) (no none) = no (λ s. last s (dec_lt s.0 n))
      where
        last : (s : (x : ℕ) × (x < suc n) × So x) → Dec (s.0 < n) → ⊥
        last s (yes l) = none (s.0, l, s.2)
        last s (no l) = let e : s.0 ≡ n = omega (arith, s.1) in not (rw e at s.2)

module _ (run : Run) (map : List ℕ) (threshold : ℕ) (guard : Guard) where
  pub blanked_known : (j : ℕ) → Dec (Blanked run map threshold guard j)
  blanked_known j =
      map_dec
      (λ s. record { cell = s.0; guarded = record { inside = s.1; on = s.2.0; from = s.2.1.0; to = s.2.1.1.0 }; reaches = s.2.1.1.1 })
      (λ b. (b.cell, b.guarded.inside, (b.guarded.on, (b.guarded.from, (b.guarded.to, b.reaches)))))
      (some_known (λ x. Dec.and (ℕ_discrete (line_of run x) j) (Dec.and (le_z_known guard.lowest (offset_of run x)) (Dec.and (le_z_known (offset_of run x) guard.highest) (dec_le threshold (get_or map x 0))))) (cells_of run))

-- a line with a cell of the run is one of the run's
line_inside : (run : Run) (x : ℕ) → x < cells_of run → (run.first ≤ line_of run x) × (line_of run x ≤ run.last)
unfolding line_of cells_of lines_of
line_inside run x h = go (dec_lt 0 run.window)
  where
    go : Dec (0 < run.window) → (run.first ≤ run.first + x / run.window) × (run.first + x / run.window ≤ run.last)
    go (yes some) = (omega arith, omega (arith, (div-lt_iff_lt-mul {k = run.window} {x = x} {y = suc run.last - run.first} some).1 (omega arith)))
    go (no none) = let e : run.window ≡ 0 = omega arith in absurd (omega (arith, rw (e, zero-mul) at h))

module _ {run : Run} {map : List ℕ} {threshold : ℕ} {guard : Guard} where
  pub blanked_inside : (j : ℕ) → Blanked run map threshold guard j → (run.first ≤ j) × (j ≤ run.last)
  blanked_inside j b = rw b.guarded.on at (line_inside run b.cell b.guarded.inside)

-- For every input there is a list of the maximal stretches of blanked lines.
pub blanked_stretches : (run : Run) (map : List ℕ) (threshold : ℕ) (guard : Guard) → (stretches : List Stretch) × MaximalStretches (Blanked run map threshold guard) stretches
blanked_stretches run map threshold guard =
    stretches_exist (Blanked run map threshold guard) (blanked_known run map threshold guard) (suc run.last) (λ j b. omega (arith, (blanked_inside j b).1))

-- the part of the cells from `at` to before `next`
part_reaches : (cells : List ℕ) (at next threshold : ℕ) → at ≤ next → next ≤ length cells → Reaches (take (next - at) (drop at cells)) threshold ↔ ((k : ℕ) × (at ≤ k) × (k < next) × (threshold ≤ get_or cells k 0))
part_reaches cells at next threshold h fits = (
  λ r. (at + r.0, omega arith, omega (arith, r.1, size), rw (cell r.0 (omega (arith, r.1, size))) at r.2),
  λ r.
      let back : at + (r.0 - at) ≡ r.0 = omega (arith, r.1) in
      (r.0 - at, omega (arith, r.1, r.2, size), rw (cell (r.0 - at) (omega (arith, r.1, r.2)), back) r.3),
)
  where
    size : length (take (next - at) (drop at cells)) ≡ next - at
    size = simp (length-take, length-drop) (omega arith)

    cell : (k : ℕ) → k < next - at → get_or (take (next - at) (drop at cells)) k 0 ≡ get_or cells (at + k) 0
    cell k l = get_or-take (next - at) (drop at cells) k 0 l ∙ get_or-drop at cells k 0

-- ---- the guard cells of a line, as a part of the map

-- the distance of an offset is less than the window
pub near : {window : ℕ} {offset : ℤ} {d : ℕ} → Within window offset → offset +ℤ pos (window / 2) ≡ pos d → d < window
near {window} {offset} w e = omega (arith, parts, w.right, e, sum offset (pos (window / 2)))

-- the line ends within the map
pub line_fits : {run : Run} {map : List ℕ} {threshold : ℕ} {guard : Guard} → Guarded run map threshold guard → {j : ℕ} → run.first ≤ j → j ≤ run.last → (j - run.first) * run.window + run.window ≤ length map
unfolding cells_of lines_of
line_fits {run} g {j} from to =
    let lines = mul-le-mul_left {m = suc (j - run.first)} {n = suc run.last - run.first} run.window (omega arith) in
    omega (arith, g.whole)

module _ {run : Run} {map : List ℕ} {threshold : ℕ} {guard : Guard} (g : Guarded run map threshold guard) {a b : ℕ} (low : guard.lowest +ℤ pos (run.window / 2) ≡ pos a) (high : guard.highest +ℤ pos (run.window / 2) ≡ pos b) where
  abbrev half : ℤ
  half = pos (run.window / 2)

  -- the distances of the guard
  pub upright : a ≤ b
  upright = omega (arith, parts, low, high, g.upright, sum guard.lowest half, sum guard.highest half)

  module _ {j : ℕ} (from : run.first ≤ j) (to : j ≤ run.last) where
    -- the line is blanked exactly if one of these cells is at or above the threshold
    pub line_reaches : {start end : ℕ} → start ≡ (j - run.first) * run.window + a → end ≡ (j - run.first) * run.window + b + 1 → Reaches (take (end - start) (drop start map)) threshold ↔ Blanked run map threshold guard j
    line_reaches {start} {end} s e = Iff.trans (part_reaches map start end threshold (omega (arith, s, e, upright)) (omega (arith, e, line_fits g from to, near g.high high))) (to_line, of_line)
      where
        to_line : (k : ℕ) × (start ≤ k) × (k < end) × (threshold ≤ get_or map k 0) → Blanked run map threshold guard j
        to_line r =
            let before = j - run.first in
            let d = r.0 - before * run.window in
            let is : before * run.window + d ≡ r.0 = omega (arith, r.1, s) in
            let within : d < run.window = omega (arith, r.1, r.2, s, e, near g.high high) in
            let far = offset_distance run r.0 ∙ ap (λ x. pos (x % run.window)) (sym is) ∙ ap pos (distance_at run before within) in
            record {
              cell = r.0;
              guarded = record {
                inside = omega (arith, within, is, line_fits g from to, g.whole);
                on = ap (line_of run) (sym is) ∙ line_at run before within ∙ omega (arith, from);
                from = omega (arith, parts, far, low, r.1, s, sum (offset_of run r.0) half, sum guard.lowest half);
                to = omega (arith, parts, far, high, r.1, r.2, s, e, sum (offset_of run r.0) half, sum guard.highest half);
              };
              reaches = r.3;
            }

        of_line : Blanked run map threshold guard j → (k : ℕ) × (start ≤ k) × (k < end) × (threshold ≤ get_or map k 0)
        of_line l =
            let x = l.cell in
            let far = offset_distance run x in
            let cell : (j - run.first) * run.window + x % run.window ≡ x = rw l.guarded.on at (cell_parts run x) in
            let right : a ≤ x % run.window = omega (arith, parts, far, low, l.guarded.from, sum (offset_of run x) half, sum guard.lowest half) in
            let left : x % run.window ≤ b = omega (arith, parts, far, high, l.guarded.to, sum (offset_of run x) half, sum guard.highest half) in
            (x, omega (arith, s, cell, right), omega (arith, e, cell, left), l.reaches)
