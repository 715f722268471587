-- Laws of a source's hits on one line, which lie a period apart, and of its distance from a line to the next.
-- Assumes nothing.
use Prim.Native.Nat.{ℕ, ◌+◌, ◌-◌, ◌*◌, ◌/◌, ◌%◌, ◌≤◌, ◌<◌}
use native.Mathlib.Nat.{div-add-mod', mod-lt, mod-eq_of_lt, mul-le-mul_right, add-mod_right, mod-eq-sub-mod, add-zero, div-mul-le_self, mul-div_cancel_left, mod-add-mod, add-mul-mod_self_right, add-mul-div_right, div-eq_of_lt}
use native.Mathlib.Decide.{dec_lt}
use native.Mathlib.Omega.{arith}
use mathlib.Core.Path.{◌≡◌, sym, ap, ◌∙◌}
use mathlib.Core.Logic.{⊎_elim}
use mathlib.Core.Bool.{true, false}
use mathlib.Core.List.{List, [], ◌∷◌}
use lib.ListN.{length, get_or, set, take, drop}
use borrow.Rule.Slice.PartMut.{put_mid}
use borrow.Author.Tests.{eq-eqb, ne_eqb}
use Rattle.map.specs.Sum.{capped, raised}
use Rattle.map.specs.Inner.{spaced}
use Rattle.scope.specs.declared.Run.{Run}
use Rattle.scope.specs.declared.Source.{Source}
use Rattle.scope.specs.Run.{ValidSource, UpTo, line_of}
use Rattle.scope.specs.Hit.{is_hit}
use Rattle.scope.proofs.Hits.{origin, on_origin, hit_on, miss_on, hit_or_miss}
use Rattle.map.specs.Promise.{weight_at}
use Rattle.map.proofs.Raised.{RaisedBelow, starts, over, store, patch}

spaced_hit : (p s d w : ℕ) → d % p ≡ s → spaced p s w d ≡ w
unfolding spaced
spaced_hit p s d w e = rw (eq-eqb _ _ e)

spaced_miss : (p s d w : ℕ) → (d % p ≡ s → ⊥) → spaced p s w d ≡ 0
unfolding spaced
spaced_miss p s d w e = rw (ne_eqb _ _ e)

-- between two numbers a period apart no number has their remainder
between : (p s d i : ℕ) → d % p ≡ s → d < i → i < d + p → i % p ≡ s → ⊥
between p s d i e low high f = go (dec_lt (d / p) (i / p))
  where
    go : Dec (d / p < i / p) → ⊥
    go (yes h) = omega (arith, div-add-mod' d p, div-add-mod' i p, mul-le-mul_right p h)
    go (no h) =
        let k : i / p ≤ d / p = omega arith in
        omega (arith, div-add-mod' d p, div-add-mod' i p, mul-le-mul_right p k)

-- a line of which the cells below d are done, d being the next hit
pub record Line (c period start weight : ℕ) (old : List ℕ) (d : ℕ) (line : List ℕ) : Type 0 where
  pub within : start < period
  pub small : UpTo c old
  pub hit : d % period ≡ start
  pub done : RaisedBelow c (spaced period start weight) old d line

pub line_starts : {c period start : ℕ} (weight : ℕ) {old : List ℕ} → start < period → UpTo c old → Line c period start weight old start old
line_starts {c} {period} {start} weight {old} h small =
    record {
      within = h;
      small = small;
      hit = mod-eq_of_lt h;
      done = over (starts c (spaced period start weight) old 0) small (omega arith) (λ i from to. spaced_miss period start i weight (λ e. let z = mod-eq_of_lt {n = i} {m = period} (omega arith) in omega arith));
    }

pub line_next : {c period start weight d v : ℕ} {old line : List ℕ} → Line c period start weight old d line → d < length line → v ≡ capped c (get_or line d 0 + weight) → Line c period start weight old (d + period) (set line d v)
line_next {c} {period} {start} {weight} {d} {v} {old} {line} so_far h e =
    let l = so_far.done.as_long in
    let w = so_far.within in
    let put = store so_far.done (omega arith) (omega arith) (e ∙ ap (λ n. capped c (get_or line d 0 + n)) (sym (spaced_hit period start d weight so_far.hit))) in
    record {
      within = so_far.within;
      small = so_far.small;
      hit = add-mod_right d period ∙ so_far.hit;
      done = over put so_far.small (omega arith) (λ i from to. spaced_miss period start i weight (between period start d i so_far.hit from to));
    }

-- the remainder of a sum of two remainders, by one comparison
pub wraps : {p s t : ℕ} → s < p → t < p → p ≤ s + t → s + t - p ≡ (s + t) % p
wraps low high h = sym (mod-eq-sub-mod h ∙ mod-eq_of_lt (omega arith))

-- what the cells gain from a source that moves `step` from a line to the next
unfoldable pub row_gain : (window period step start weight : ℕ) → ℕ → ℕ
row_gain window period step start weight x = spaced period ((start + x / window * step) % period) weight (x % window)

-- n times a remainder
steps_mod : (p a b n : ℕ) → (a + n * (b % p)) % p ≡ (a + n * b) % p
steps_mod p a b n =
    let z : a + n * b ≡ a + n * (b % p) + n * (b / p) * p = omega (arith, ap (λ m. n * m) (div-add-mod' b p)) in
    sym (rw z (add-mul-mod_self_right _ (n * (b / p)) p))

-- that is what they gain from the source of a run whose first distance on the run's first line is `start`
pub row_gain_lem : (run : Run) (source : Source) → ValidSource source → (weight start x : ℕ) → start ≡ (run.interval * run.first + origin run source) % source.period → row_gain run.window source.period (run.interval % source.period) start weight x ≡ weight_at run (record { source = source; weight = weight } ∷ []) x
unfolding row_gain weight_at line_of
row_gain_lem run source s weight start x e =
    let p = source.period in
    let t = run.interval in
    let n = x / run.window in
    let on = on_origin run s (x % run.window) (line_of run x) in
    let there : (start + n * (t % p)) % p ≡ (t * line_of run x + origin run source) % p =
    rw e (mod-add-mod (t * run.first + origin run source) p (n * (t % p)) ∙ steps_mod p _ t n ∙ ap (λ m. m % p) (omega arith)) in
    rw (there, add-zero)
    (⊎_elim
    (λ (h : is_hit run source x ≡ true). rw h (spaced_hit p _ _ weight (sym (on.0 ((hit_on run source x).0 h)))))
    (λ (h : is_hit run source x ≡ false). rw h (spaced_miss p _ _ weight (λ e. (miss_on run source x).0 h (on.1 (sym e)))))
    (hit_or_miss (is_hit run source x)))

-- so many whole lines of a map are done
pub record Rows (c weight : ℕ) (old : List ℕ) (window period step first : ℕ) (map : List ℕ) (start line : ℕ) : Type 0 where
  pub all : ℕ
  pub whole : length old ≡ window * all
  pub some : 0 < window
  pub moves : step < period
  pub start_is : start ≡ (first + line * step) % period
  pub small : UpTo c old
  pub done : RaisedBelow c (row_gain window period step first weight) old (line * window) map

module _ {c weight : ℕ} {old : List ℕ} {window period step first : ℕ} {map : List ℕ} {start line : ℕ} (rows : Rows c weight old window period step first map start line) where
  -- a line is left: it is there as a whole
  pub line_left : line < length old / window → line * window + window ≤ length map
  line_left h = omega (arith, rows.done.as_long, div-mul-le_self (length old) window, mul-le-mul_right window h)

  -- none is left: all cells are done
  pub no_line_left : length old / window ≤ line → length old ≤ line * window
  no_line_left h =
      let lines : length old / window ≡ rows.all = ap (λ n. n / window) rows.whole ∙ mul-div_cancel_left rows.all rows.some in
      omega (arith, rows.whole, mul-le-mul_right window (rw lines at h))

  pub start_below : start < period
  start_below = let m = rows.moves in rw rows.start_is (mod-lt _ (omega arith))

  -- one more line
  pub next_row : {part : List ℕ} {next : ℕ} → line < length old / window → next ≡ (start + step) % period → part ≡ raised c (spaced period start weight) 0 (take (line * window + window - line * window) (drop (line * window) map)) → Rows c weight old window period step first (put_mid (line * window) (line * window + window - line * window) map part) next (line + 1)
  unfolding row_gain
  next_row {part} {next} h f put =
      let room = line_left h in
      let l = rows.done.as_long in
      let here : (i : ℕ) → i < window → (i + line * window) / window ≡ line =
      λ i j. rw (add-mul-div_right i line {z = window} rows.some, div-eq_of_lt j) (omega arith) in
      let across : (i : ℕ) → i < window → (i + line * window) % window ≡ i =
      λ i j. add-mul-mod_self_right i line window ∙ mod-eq_of_lt j in
      record {
        all = rows.all;
        whole = rows.whole;
        some = rows.some;
        moves = rows.moves;
        start_is = f ∙ rw rows.start_is (mod-add-mod (first + line * step) period step ∙ ap (λ m. m % period) (omega arith));
        small = rows.small;
        done = patch rows.done (spaced period start weight) (omega arith) (omega arith) put (λ i (j : i < line * window + window - line * window). let inside : i < window = omega arith in rw (here i inside, across i inside, ← rows.start_is));
      }

pub rows_start : {c window period step first : ℕ} (weight : ℕ) (old : List ℕ) (all : ℕ) → length old ≡ window * all → 0 < window → step < period → first < period → UpTo c old → Rows c weight old window period step first old first 0
rows_start {c} {window} {period} {step} {first} weight old all whole some moves low small =
    let none : first + 0 * step ≡ first = omega arith in
    let zero' : 0 * window ≡ 0 = omega arith in
    record { all = all; whole = whole; some = some; moves = moves; start_is = sym (rw none (mod-eq_of_lt low)); small = small; done = rw zero' (starts c _ old 0) }
