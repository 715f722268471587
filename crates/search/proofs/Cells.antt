-- Where the points of a source lie among the cells of a run: the first hit from a cell on is the first on the rest of its
-- line, or else on the first later line whose point is within the window. Assumes nothing.
use Prim.Native.Nat.{ℕ, suc, ◌+◌, ◌-◌, ◌*◌, ◌/◌, ◌%◌, ◌≤◌, ◌<◌}
use native.Mathlib.Nat.{mod-lt, add-mod, div-add-mod', mul-le-mul_right}
use native.Mathlib.Omega.{arith}
use mathlib.Core.Path.{◌≡◌, sym, subst, ap, ◌∙◌}
use mathlib.Core.Logic.{◌↔◌, ⊎_elim}
use mathlib.Core.Bool.{true, false}
use Rattle.std.specs.Prelude.{Option, Some, None}
use Rattle.lattice.proofs.Congruence.{split, cong_iff_mod, cong_below}
use Rattle.lattice.proofs.Differences.{On, Go, on_go, on_cong, go_mod}
use Rattle.lattice.proofs.Row.{Leftmost, on_line, leftmost}
use Rattle.scope.specs.declared.Run.{Run}
use Rattle.scope.specs.declared.Source.{Source}
use Rattle.scope.specs.declared.RunCell.{RunCell}
use Rattle.scope.specs.Run.{ValidRun, ValidSource, lines_of, cells_of, line_of}
use Rattle.scope.specs.Hit.{is_hit}
use Rattle.scope.proofs.Numbering.{line_at, distance_at}
use Rattle.scope.proofs.Hits as scope
use Rattle.scope.proofs.Hits.{origin, hit_on, miss_on}
use Rattle.vectors.specs.declared.Turn.{Turn}
use Rattle.vectors.specs.Inner.{first_two, Successive}
use Rattle.vectors.proofs.Found.{first_two_lem, start_left}
use Rattle.vectors.proofs.Sequence.{size_of}
use Rattle.search.specs.declared.Point.{Point}
use Rattle.search.specs.Inner.{Seeking, PointOf, FirstRight, FirstFrom, FirstHit, Enters, Sought}

-- ---- cells by lines and distances

-- whole lines up to a cell of line l are at most l
pub rows_le : {k l I e : ℕ} → e < I → k * I ≤ l * I + e → k ≤ l
rows_le {k} {l} {I} h le = ⊎_elim (λ lt. absurd (omega (arith, mul-le-mul_right I lt))) (λ ge. ge) (split l k)

-- the source has a point at distance d on line j
abbrev pub Points : Run → Source → ℕ → ℕ → Type 0
Points run source d j = On source.period run.interval (run.window / 2) source.phase d j

pub on_points : (run : Run) (source : Source) (d j : ℕ) → scope.On run source d j ↔ Points run source d j
unfolding scope.On
on_points run source d j =
    let i = cong_iff_mod source.period (d + source.phase) (run.interval * j + run.window / 2) in
    (λ e. record { cong = i.1 (sym e) }, λ o. sym (i.0 o.cong))

-- the cell at distance d, k lines after the first, is hit exactly if the source has a point there
pub hit_point : (run : Run) (source : Source) (k : ℕ) {d : ℕ} → d < run.window → Points run source d (run.first + k) → is_hit run source (k * run.window + d) ≡ true
hit_point run source k {d} h o =
    let l = line_at run k h in
    let e = distance_at run k h in
    (hit_on run source (k * run.window + d)).1 (rw (l, e) ((on_points run source d (run.first + k)).1 o))

pub miss_point : (run : Run) (source : Source) (z : ℕ) → (Points run source (z % run.window) (run.first + z / run.window) → ⊥) → is_hit run source z ≡ false
unfolding line_of
miss_point run source z f = (miss_on run source z).1 (λ o. f ((on_points run source _ _).0 o))

pub point_hit : (run : Run) (source : Source) (z : ℕ) → is_hit run source z ≡ true → Points run source (z % run.window) (run.first + z / run.window)
unfolding line_of
point_hit run source z h = (on_points run source _ _).0 ((hit_on run source z).0 h)

-- a later point of the coset, seen from one of its points; only the remainder of the interval matters
pub way : (run : Run) (source : Source) {d j e k : ℕ} → j ≤ k → Points run source d j → Points run source e k → Go source.period (run.interval % source.period) d (k - j) e
way run source {d} {j} {e} {k} l o o' =
    let n : k ≡ j + (k - j) = omega arith in
    (go_mod _ _ d (k - j) e).0 ((on_go (k - j) e o).0 (subst (λ x. Points run source e x) n o'))

pub arrive : (run : Run) (source : Source) {d j Y e : ℕ} → Points run source d j → Go source.period (run.interval % source.period) d Y e → Points run source e (j + Y)
arrive run source {d} {Y = Y} {e} o g = (on_go Y e o).1 ((go_mod _ _ d Y e).1 g)

-- the lines of the run are those of its cells
line_inside : {run : Run} (k e : ℕ) → ValidRun run → k * run.window + e < cells_of run → run.first + k ≤ run.last
unfolding cells_of lines_of
line_inside {run} k e v h =
    ⊎_elim (λ past. absurd (let few : suc run.last - run.first ≤ k = omega (arith, v.ordered) in omega (arith, mul-le-mul_right run.window few))) (λ in'. in') (split run.last (run.first + k))

pub inside_cells : {run : Run} (k : ℕ) {e : ℕ} → ValidRun run → e < run.window → run.first + k ≤ run.last → k * run.window + e < cells_of run
unfolding cells_of lines_of
inside_cells {run} k v h l = let more : suc k ≤ suc run.last - run.first = omega arith in omega (arith, mul-le-mul_right run.window more)

-- the cells of whole lines
lines_cells : {run : Run} {j : ℕ} → ValidRun run → j ≤ run.last + 1 → (j - run.first) * run.window ≤ cells_of run
unfolding cells_of lines_of
lines_cells {run} {j} v l = let few : j - run.first ≤ suc run.last - run.first = omega arith in omega (arith, mul-le-mul_right run.window few)

-- ---- the first hit from a cell on

module _ {run : Run} (v : ValidRun run) (source : Source) where
  -- a cell is missed if it is no point, as the cell of a line and a distance
  pub missed : (z : ℕ) → ((k e : ℕ) → e < run.window → k * run.window + e ≡ z → Points run source e (run.first + k) → ⊥) → is_hit run source z ≡ false
  missed z f =
      miss_point run source z (λ o. f (z / run.window) (z % run.window) (mod-lt z (omega (arith, v.narrow))) (div-add-mod' z run.window) o)

  -- there is none
  first_none : {x : ℕ} → x ≤ cells_of run → ((k e : ℕ) → e < run.window → x ≤ k * run.window + e → run.first + k ≤ run.last → Points run source e (run.first + k) → ⊥) → FirstHit run source x None
  first_none {x} le f = record {
    from = le;
    to = omega arith;
    hit = λ h. absurd (omega arith);
    none = λ z h l. missed z (λ k e h' is o. f k e h' (omega arith) (line_inside k e v (omega arith)) o);
  }

  -- it is the cell at distance d, k lines after the first
  first_at : (k : ℕ) {x d : ℕ} → d < run.window → x ≤ k * run.window + d → run.first + k ≤ run.last → Points run source d (run.first + k) → ((l e : ℕ) → e < run.window → x ≤ l * run.window + e → l * run.window + e < k * run.window + d → Points run source e (run.first + l) → ⊥) → FirstHit run source x (Some (record { 0 = k * run.window + d }))
  first_at k {x} {d} h le in' o f =
      let small = inside_cells k v h in' in (
        small,
        record {
          from = le;
          to = omega arith;
          hit = λ b. hit_point run source k h o;
          none = λ z a b. missed z (λ l e h' is o'. f l e h' (omega arith) (omega arith) o');
        },
      )

  -- from a cell on, none being hit before the other
  over : {x y z : ℕ} → x ≤ y → ((w : ℕ) → x ≤ w → w < y → is_hit run source w ≡ false) → FirstFrom run source y z → FirstFrom run source x z
  over {x} {y} {z} le f h = record {
    from = omega (arith, h.from);
    to = h.to;
    hit = h.hit;
    none = λ w a b. ⊎_elim (λ l. f w a l) (λ g. h.none w g b) (split w y);
  }

  first_over : {x y : ℕ} (found : Option RunCell) → x ≤ y → ((w : ℕ) → x ≤ w → w < y → is_hit run source w ≡ false) → FirstHit run source y found → FirstHit run source x found
  first_over (Some cell) le f h = (h.0, over le f h.1)
  first_over None le f h = over le f h

  -- ---- the first hit from a line on

  -- a point at a distance below the period, and where the search from it leads
  module _ {at : Point} (o : Points run source at.distance at.line) (begun : run.first ≤ at.line) (low : at.distance < source.period) where
    -- a point on its line or later, as a way from this one
    seen : (k e : ℕ) → e < run.window → (at.line - run.first) * run.window ≤ k * run.window + e → Points run source e (run.first + k) → (at.line ≤ run.first + k) × Go source.period (run.interval % source.period) at.distance (run.first + k - at.line) e
    seen k e h le o' =
        let rows = rows_le {l = k} h le in
        let l : at.line ≤ run.first + k = omega arith in
        (l, way run source l o o')

    line_none : (at.line - run.first) * run.window ≤ cells_of run → Sought source.period (run.interval % source.period) run.window run.last at None → FirstHit run source ((at.line - run.first) * run.window) None
    line_none le s = first_none le (λ k e h le' in' o'. let w = seen k e h le' o' in omega (arith, w.0, s (run.first + k - at.line) e h w.1))

    line_found : {to : Point} → Enters source.period (run.interval % source.period) run.window run.last at to → FirstHit run source ((at.line - run.first) * run.window) (Some (record { 0 = (to.line - run.first) * run.window + to.distance }))
    line_found {to} s =
        let n = s.nearer in
        let m = s.moves in
        let i = s.inside in
        let same : run.first + (to.line - run.first) ≡ at.line + s.lines = omega arith in
        let on : Points run source to.distance (run.first + (to.line - run.first)) = subst (λ x. Points run source to.distance x) (sym same) (arrive run source o s.first.way) in
        let rise : at.line - run.first ≤ to.line - run.first = omega arith in
        first_at (to.line - run.first) s.first.inside (omega (arith, mul-le-mul_right run.window rise)) (omega arith) on (λ l e h le lt o'.
        let w = seen l e h le o' in
        let past = s.first.least (run.first + l - at.line) e h w.1 in
        let before = rows_le {k = l} {l = to.line - run.first} s.first.inside (omega arith) in
        let k : l ≡ to.line - run.first = omega (arith, w.0) in
        let e< : e < to.distance = omega (arith, ap (λ x. x * run.window) k) in
        let alike = cong_below (on_cong o' (subst (λ x. Points run source to.distance (run.first + x)) (sym k) on)) (omega arith) (omega arith) in
        omega arith)

  -- ---- the first hit on the rest of a line

  module _ (x : ℕ) {d : ℕ} (row : Leftmost source.period run.interval (run.window / 2) source.phase (run.first + x / run.window) (x % run.window) d) where
    -- a point of the same line at x or right of it
    rest : (l e : ℕ) → e < run.window → x ≤ l * run.window + e → l ≤ x / run.window → Points run source e (run.first + l) → (l ≡ x / run.window) × (d ≤ e)
    rest l e h le up o =
        let parts = div-add-mod' x run.window in
        let same : l ≡ x / run.window = omega (arith, rows_le {k = x / run.window} {l = l} h (omega arith)) in
        (same, row.least e (omega (arith, ap (λ y. y * run.window) same)) (subst (λ y. Points run source e (run.first + y)) same o))

    row_found : x < cells_of run → d < run.window → FirstHit run source x (Some (record { 0 = x / run.window * run.window + d }))
    row_found h l =
        let parts = div-add-mod' x run.window in
        let right = row.from in
        first_at (x / run.window) l (omega arith) (line_inside (x / run.window) (x % run.window) v (omega arith)) row.on (λ k e h' le lt o.
        let at = rest k e h' le (rows_le {k = k} {l = x / run.window} l (omega arith)) o in
        omega (arith, ap (λ y. y * run.window) at.0, at.1))

    row_none : run.window ≤ d → (w : ℕ) → x ≤ w → w < (x / run.window + 1) * run.window → is_hit run source w ≡ false
    row_none h w a b =
        let some = v.narrow in
        missed w (λ k e h' is o.
        let at = rest k e h' (omega arith) (rows_le {k = k} {l = x / run.window} {I = run.window} {e = run.window - 1} (omega arith) (omega arith)) o in
        omega (arith, at.1))

-- ---- the whole search

-- the first two vectors of the division sequence
abbrev begin : Run → Source → Turn
begin run source = first_two source.period (run.interval % source.period)

pub begin_divides : (run : Run) {source : Source} → ValidSource source → Successive source.period (run.interval % source.period) (begin run source).before (begin run source).last
begin_divides run s = first_two_lem (mod-lt run.interval s.ticks)

pub begin_seeking : {run : Run} {source : Source} {at : Point} → ValidRun run → ValidSource source → at.distance < source.period → Seeking (begin run source).before (begin run source).last at run.window run.last
begin_seeking {run} {source} v s low = record {
  division = record { p = _; r = _; at = begin_divides run s; small = s.fits };
  below = rw (size_of (start_left source.period)) (omega arith);
  short = v.ends;
}

module _ (run : Run) {source : Source} (s : ValidSource source) (line : ℕ) {d : ℕ} (is : d ≡ (run.interval * line + origin run source) % source.period) where
  pub distance_low : d < source.period
  distance_low = rw is (mod-lt (run.interval * line + origin run source) s.ticks)

  distance_point : Points run source d line
  distance_point = rw is (on_line run.interval (run.window / 2) line (omega (arith, s.phased)))

  -- on the next line
  pub distance_next : (d + run.interval % source.period) % source.period ≡ (run.interval * (line + 1) + origin run source) % source.period
  distance_next = rw is (sym (add-mod (run.interval * line + origin run source) run.interval source.period) ∙ ap (λ n. n % source.period) (omega arith))

-- what the search from a point of the source found
module _ {run : Run} (v : ValidRun run) {source : Source} (s : ValidSource source) {at : Point} (o : PointOf run source at) where
  pub point_low : at.distance < source.period
  point_low = distance_low run s at.line o.is

  pub sought_cell : {to : Point} → Enters source.period (run.interval % source.period) run.window run.last at to → FirstHit run source ((at.line - run.first) * run.window) (Some (record { 0 = (to.line - run.first) * run.window + to.distance }))
  sought_cell h = line_found v source (distance_point run s at.line o.is) o.begun point_low h

  pub sought_none : Sought source.period (run.interval % source.period) run.window run.last at None → FirstHit run source ((at.line - run.first) * run.window) None
  sought_none h = line_none v source (distance_point run s at.line o.is) o.begun point_low (lines_cells v o.short) h

-- ---- the rest of a cell's line

module _ {run : Run} (v : ValidRun run) {x : ℕ} (inside : x < cells_of run) where
  pub own_line : run.first + x / run.window ≤ run.last
  own_line = line_inside (x / run.window) (x % run.window) v (omega (arith, div-add-mod' x run.window))

  -- its own line, as a cell number
  own_row : x - x % run.window ≡ x / run.window * run.window
  own_row = omega (arith, div-add-mod' x run.window)

  module _ {source : Source} (s : ValidSource source) {d to : ℕ} (is : d ≡ (run.interval * (run.first + x / run.window) + origin run source) % source.period) (h : FirstRight d (x % run.window) source.period to) where
    row : Leftmost source.period run.interval (run.window / 2) source.phase (run.first + x / run.window) (x % run.window) to
    row =
        let e = h.is in
        let r = h.right in
        let n = h.near in
        rw e (leftmost (x % run.window) h.turns (omega arith) (omega arith) (distance_point run s (run.first + x / run.window) is))

    pub rest_found : to < run.window → FirstHit run source x (Some (record { 0 = x - x % run.window + to }))
    rest_found l = rw own_row (row_found v source x row inside l)

    pub rest_none : (found : Option RunCell) → run.window ≤ to → FirstHit run source ((run.first + x / run.window + 1 - run.first) * run.window) found → FirstHit run source x found
    rest_none found out f =
        let next : run.first + x / run.window + 1 - run.first ≡ x / run.window + 1 = omega arith in
        let some = v.narrow in
        let m = mod-lt x {m = run.window} (omega arith) in
        first_over v source {y = (x / run.window + 1) * run.window} found (omega (arith, div-add-mod' x run.window)) (row_none v source x row out) (rw next at f)
