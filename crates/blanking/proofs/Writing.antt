-- What counting and writing the stretches come to: an iterator over them gives all that there are, in their order, and on the way of writing
-- the room has those that were given. Assumes nothing.
use Prim.Native.Nat.{ℕ, suc, ◌+◌, ◌*◌, ◌≤◌}
use native.Mathlib.Omega.{arith}
use native.Mathlib.Numerals.{add-one}
use mathlib.Core.Path.{◌≡◌, refl, sym, subst, ap, ◌∙◌}
use mathlib.Core.List.{List, [], ◌∷◌, ◌++◌, append_assoc, append-nil}
use lib.ListN.{length, take, drop, set, length-set, take-append-drop}
use lib.Seq.{take-suc-set, drop-set-lt, drop-drop}
use Rattle.std.specs.Iterator.{Yields, Drains}
use Rattle.blanking.specs.declared.Stretch.{Stretch}
use Rattle.blanking.specs.declared.Asked.{Asked}
use Rattle.blanking.specs.declared.StretchesFrom.{StretchesFrom}
use Rattle.blanking.specs.Stretches.{MaximalStretches}
use Rattle.blanking.specs.Promise.{numbers_of, written}
use Rattle.blanking.specs.Inner.{Begins}
use Rattle.blanking.specs.InnerAsking.{Blanks, Gives}
use Rattle.blanking.proofs.Guarding.{blanked_inside, blanked_stretches}
use Rattle.blanking.proofs.Stretches.{From, stretches_from, from_unique, from_next, from_none}

-- ---- all stretches are given

given_from : (given : List Stretch) (s t : StretchesFrom) → Yields Gives s given t → ((j : ℕ) → t.line ≤ j → Blanks t.asked j → ⊥) → From (Blanks s.asked) s.line given
given_from [] s t y none = let P : StretchesFrom → Type 0 = λ r. (j : ℕ) → r.line ≤ j → Blanks r.asked j → ⊥ in subst P (sym y) none
given_from (x ∷ given) s t y none =
    let g = y.1 in
    let asks : Asked → Type 0 = λ a. From (Blanks a) y.0.line given in
    let on : ℕ → Type 0 = λ line. From (Blanks s.asked) line given in
    let two : y.0.line ≡ suc (suc x.last) = omega (arith, g.1.1) in
    (g.1.0, subst on two (subst asks g.0 (given_from given y.0 t y.2 none)))

-- from the run's first line on these are the stretches
pub given_all : {asked : Asked} {all given : List Stretch} (s : StretchesFrom) → s.asked ≡ asked → s.line ≡ asked.run.first → Drains Gives s given → MaximalStretches (Blanks asked) all → given ≡ all
given_all {asked} {all} {given} s is begins d m =
    let asks : Asked → Type 0 = λ a. From (Blanks a) s.line given in
    let on : ℕ → Type 0 = λ line. From (Blanks asked) line given in
    let from = subst on begins (subst asks is (given_from given s d.1.0 d.1.1 d.1.2.1)) in
    from_unique (Blanks asked) given all asked.run.first from (stretches_from (Blanks asked) (λ j b. (blanked_inside j b).0) m)

-- ---- they are written

pub numbers_length : (stretches : List Stretch) → length (numbers_of stretches) ≡ 2 * length stretches
unfolding numbers_of
numbers_length [] = refl
numbers_length (s ∷ stretches) = omega (arith, numbers_length stretches)

-- up to `at` the room has them, and from there on it is as it was
pub record Kept (So : ℕ → Type 0) (all : List Stretch) (before room : List ℕ) (at line : ℕ) : Type 0 where
  pub left : List Stretch
  pub from : From So line left
  pub wrote : numbers_of all ≡ take at room ++ numbers_of left
  pub makes : at + 2 * length left ≡ 2 * length all
  pub past : drop at room ≡ drop at before
  pub same : length room ≡ length before
  pub fits : 2 * length all ≤ length before

-- at first all are left
kept_none : (So : ℕ → Type 0) (all : List Stretch) (room : List ℕ) (line : ℕ) → ((j : ℕ) → So j → line ≤ j) → MaximalStretches So all → 2 * length all ≤ length room → Kept So all room room 0 line
kept_none So all room line first m fits = record { left = all; from = stretches_from So first m; wrote = refl; makes = omega arith; past = refl; same = refl; fits = fits }

module _ (So : ℕ → Type 0) {all : List Stretch} {line : ℕ} {before room : List ℕ} {at : ℕ} (k : Kept So all before room at line) where
  -- while a stretch is left, its two numbers fit
  kept_fits : {s : Stretch} → Begins So line s → at + 2 ≤ length room
  kept_fits b = let p = from_next So k.left b k.from in omega (arith, k.makes, k.same, k.fits, ap length p.is)

  kept_on : {on : ℕ} (s : Stretch) → Begins So line s → on ≡ s.last + 2 → Kept So all before (set (set room at s.first) (at + 1) s.last) (at + 2) on
  unfolding numbers_of
  kept_on {on} s b e =
      let p = from_next So k.left b k.from in
      let next : ℕ → Type 0 = λ x. From So x p.others in
      let room_left : at + 2 ≤ length room = kept_fits b in
      let once = set room at s.first in
      let long : length once ≡ length room = length-set room at s.first in
      let one : take (at + 1) once ≡ take at room ++ s.first ∷ [] = rw (add-one at) (take-suc-set room at s.first (omega arith)) in
      let more : at + 2 ≡ suc (at + 1) = omega arith in
      let two : take (at + 2) (set once (at + 1) s.last) ≡ take (at + 1) once ++ s.last ∷ [] =
      ap (λ n. take n (set once (at + 1) s.last)) more ∙ take-suc-set once (at + 1) s.last (omega arith) in
      record {
        left = p.others;
        from = subst next (sym e) p.on;
        wrote = k.wrote ∙ ap (λ l. take at room ++ numbers_of l) p.is ∙ rw (two, one) (simp append_assoc);
        makes = omega (arith, k.makes, ap length p.is);
        past = drop-set-lt (at + 2) once (at + 1) s.last (omega arith) ∙ drop-set-lt (at + 2) room at s.first (omega arith) ∙ sym (drop-drop 2 at room) ∙ ap (drop 2) k.past ∙ drop-drop 2 at before;
        same = length-set once (at + 1) s.last ∙ long ∙ k.same;
        fits = k.fits;
      }

  kept_all : ((j : ℕ) → line ≤ j → So j → ⊥) → room ≡ written all before
  unfolding numbers_of written
  kept_all past =
      let none = from_none So k.left past k.from in
      let whole : numbers_of all ≡ take at room = k.wrote ∙ ap (λ l. take at room ++ numbers_of l) none ∙ append-nil (take at room) in
      let size : length (numbers_of all) ≡ at = numbers_length all ∙ omega (arith, k.makes, ap length none) in
      sym (rw (size, whole, ← k.past) (take-append-drop at room))

-- on the way of writing, whichever list has the stretches
pub record Put (asked : Asked) (s : StretchesFrom) (before room : List ℕ) (at : ℕ) : Type 0 where
  pub asks : s.asked ≡ asked
  pub so_far : (all : List Stretch) → MaximalStretches (Blanks asked) all → Kept (Blanks asked) all before room at s.line

pub put_none : {asked : Asked} {room : List ℕ} (s : StretchesFrom) → s.asked ≡ asked → s.line ≡ asked.run.first → ((all : List Stretch) → MaximalStretches (Blanks asked) all → 2 * length all ≤ length room) → Put asked s room room 0
put_none {asked} {room} s is begins fits = record { asks = is; so_far = each }
  where
    each : (all : List Stretch) → MaximalStretches (Blanks asked) all → Kept (Blanks asked) all room room 0 s.line
    each all m =
        let P : ℕ → Type 0 = λ line. Kept (Blanks asked) all room room 0 line in
        subst P (sym begins) (kept_none (Blanks asked) all room asked.run.first (λ j b. (blanked_inside j b).0) m (fits all m))

module _ {asked : Asked} {s : StretchesFrom} {before room : List ℕ} {at : ℕ} (p : Put asked s before room at) where
  here : {x : Stretch} → Begins (Blanks s.asked) s.line x → Begins (Blanks asked) s.line x
  here {x} b = let P : Asked → Type 0 = λ a. Begins (Blanks a) s.line x in subst P p.asks b

  -- while one is given, its two numbers fit
  pub put_fits : {x : Stretch} → Begins (Blanks s.asked) s.line x → at + 2 ≤ length room
  put_fits b =
      let all = blanked_stretches asked.run asked.map.now asked.threshold asked.guard in
      kept_fits (Blanks asked) (p.so_far all.0 all.1) (here b)

  pub put_long : length room ≡ length before
  put_long =
      let all = blanked_stretches asked.run asked.map.now asked.threshold asked.guard in
      (p.so_far all.0 all.1).same

  pub put_on : (t : StretchesFrom) (x : Stretch) → t.asked ≡ s.asked → Begins (Blanks s.asked) s.line x → t.line ≡ x.last + 2 → Put asked t before (set (set room at x.first) (at + 1) x.last) (at + 2)
  put_on t x is b e = record { asks = is ∙ p.asks; so_far = λ all m. kept_on (Blanks asked) (p.so_far all m) x (here b) e }

  pub put_all : ((j : ℕ) → s.line ≤ j → Blanks s.asked j → ⊥) → (all : List Stretch) → MaximalStretches (Blanks asked) all → room ≡ written all before
  put_all none all m =
      let P : Asked → Type 0 = λ a. (j : ℕ) → s.line ≤ j → Blanks a j → ⊥ in
      kept_all (Blanks asked) (p.so_far all m) (subst P p.asks none)
