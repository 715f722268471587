-- Laws of sums that stop at a ceiling, over any ceiling: stopping in between changes nothing, and a list of cells may be
-- raised part by part. `RaisedIn`, and `RaisedBelow` from cell 0 on, is what a loop over cell numbers keeps; `RaisedFrom`, what one keeps
-- whose cells do not start from what they were. Assumes nothing.
use Prim.Native.Nat.{ℕ, zero, suc, ◌+◌, ◌-◌, ◌≤◌, ◌<◌}
use native.Mathlib.Nat.{add-zero, add-suc, zero-add, suc-add}
use native.Mathlib.Omega.{arith}
use mathlib.Core.Path.{◌≡◌, refl, sym, ap, ap₂, ◌∙◌, subst}
use mathlib.Core.Logic.{⊎_elim}
use mathlib.Core.List.{List, [], ◌∷◌, ◌++◌}
use lib.ListN.{length, get_or, take, drop, set, length-set, length-drop, get_or-append}
use lib.Seq.{ext_get_or, get_or-set_same, get_or-set_other, get_or-take, get_or-drop, get_or-append-add, length-take-le}
use borrow.Rule.Slice.PartMut.{put_mid, same_len_mid}
use Rattle.std.proofs.lemmas.Bool.{cases_lt}
use Rattle.scope.specs.Run.{UpTo}
use Rattle.map.specs.Sum.{capped, raised}
use Rattle.map.specs.Inner.{RaisedFrom, RaisedIn}

-- a sum stopped in between
capped_again : (c a b : ℕ) → capped c (capped c a + b) ≡ capped c (a + b)
capped_again c a b = omega arith

-- what is not above the ceiling is not stopped
pub capped_below : (c : ℕ) {a : ℕ} → a ≤ c → capped c a ≡ a
capped_below c h = omega arith

capped_le : (c a : ℕ) → capped c a ≤ c
capped_le c a = omega arith

pub raised_length : (c : ℕ) (gain : ℕ → ℕ) (x : ℕ) (cells : List ℕ) → length (raised c gain x cells) ≡ length cells
unfolding raised
raised_length c gain x [] = refl
raised_length c gain x (v ∷ cells) = ap suc (raised_length c gain (suc x) cells)

pub raised_get_d : (c : ℕ) (gain : ℕ → ℕ) (x : ℕ) (cells : List ℕ) (i : ℕ) → i < length cells → get_or (raised c gain x cells) i 0 ≡ capped c (get_or cells i 0 + gain (x + i))
unfolding raised
raised_get_d c gain x [] i h = absurd (omega arith)
raised_get_d c gain x (v ∷ cells) zero h = rw add-zero
raised_get_d c gain x (v ∷ cells) (suc i) h = rw (add-suc, ← suc-add) (raised_get_d c gain (suc x) cells i (omega arith))

pub raised_within : (c : ℕ) (gain : ℕ → ℕ) (x : ℕ) (cells : List ℕ) → UpTo c (raised c gain x cells)
unfolding raised
raised_within c gain x [] i = omega arith
raised_within c gain x (v ∷ cells) zero = capped_le c (v + gain x)
raised_within c gain x (v ∷ cells) (suc i) = raised_within c gain (suc x) cells i

-- gains that agree, cell by cell, though counted from different numbers
pub raised_move : (c : ℕ) (f g : ℕ → ℕ) (x y : ℕ) (cells : List ℕ) → ((i : ℕ) → i < length cells → f (x + i) ≡ g (y + i)) → raised c f x cells ≡ raised c g y cells
unfolding raised
raised_move c f g x y [] h = refl
raised_move c f g x y (v ∷ cells) h =
    let here : f x ≡ g y = rw (← add-zero x, ← add-zero y) (h 0 (omega arith)) in
    let more : raised c f (suc x) cells ≡ raised c g (suc y) cells = raised_move c f g (suc x) (suc y) cells (λ i k. rw (suc-add, suc-add, ← add-suc, ← add-suc) (h (suc i) (omega arith))) in
    rw (here, more)

-- raised twice
pub raised_again : (c : ℕ) (f g : ℕ → ℕ) (x : ℕ) (cells : List ℕ) → raised c g x (raised c f x cells) ≡ raised c (λ y. f y + g y) x cells
unfolding raised
raised_again c f g x [] = refl
raised_again c f g x (v ∷ cells) =
    let here : capped c (capped c (v + f x) + g x) ≡ capped c (v + (f x + g x)) = capped_again c (v + f x) (g x) ∙ ap (capped c) (omega arith) in
    rw (here, raised_again c f g (suc x) cells)

-- raised part by part
pub raised_append : (c : ℕ) (gain : ℕ → ℕ) (x : ℕ) (a b : List ℕ) → raised c gain x (a ++ b) ≡ raised c gain x a ++ raised c gain (x + length a) b
unfolding raised
raised_append c gain x [] b = rw add-zero
raised_append c gain x (v ∷ a) b = rw (raised_append c gain (suc x) a b, suc-add, add-suc)

-- the cells below x are raised, those from x on are as they were
abbrev pub RaisedBelow : ℕ → (ℕ → ℕ) → List ℕ → ℕ → List ℕ → Type 0
RaisedBelow c gain old x cells = RaisedIn c gain old 0 x cells

-- at first none is raised
pub starts : (c : ℕ) (gain : ℕ → ℕ) {start : List ℕ} (old : List ℕ) (x : ℕ) → RaisedFrom c gain start old x x old
starts c gain {start} old x = record { as_long = refl; below = λ i h. refl; within = λ i h k. absurd (omega arith); above = λ i h. refl }

-- ---- a part of a list, put back changed: the cells before it, in it and after it

module _ (cells part : List ℕ) (a k : ℕ) (fits : a + k ≤ length cells) (as_many : length part ≡ k) where
  front : length (take a cells) ≡ a
  front = length-take-le a cells (omega arith)

  put_before : (i : ℕ) → i < a → get_or (put_mid a k cells part) i 0 ≡ get_or cells i 0
  put_before i h = get_or-append (take a cells) _ 0 i (rw front h) ∙ get_or-take a cells i 0 h

  put_in : (i : ℕ) → i < k → get_or (put_mid a k cells part) (a + i) 0 ≡ get_or part i 0
  put_in i h =
      let here : get_or (put_mid a k cells part) (length (take a cells) + i) 0 ≡ get_or (part ++ drop k (drop a cells)) i 0 = get_or-append-add (take a cells) _ i 0 in
      (rw front at here) ∙ get_or-append part _ 0 i (omega arith)

  put_after : (i : ℕ) → get_or (put_mid a k cells part) (a + (k + i)) 0 ≡ get_or cells (a + (k + i)) 0
  put_after i =
      let here : get_or (put_mid a k cells part) (length (take a cells) + (length part + i)) 0 ≡ get_or (drop k (drop a cells)) i 0 =
      get_or-append-add (take a cells) _ (length part + i) 0 ∙ get_or-append-add part _ i 0 in
      (rw (front, as_many) at here) ∙ get_or-drop k (drop a cells) i 0 ∙ get_or-drop a cells (k + i) 0

module _ {c : ℕ} {gain : ℕ → ℕ} {old : List ℕ} {from x : ℕ} {cells : List ℕ} (so_far : RaisedIn c gain old from x cells) where
  -- cells that gain nothing are passed over
  pub over : {y : ℕ} → UpTo c old → x ≤ y → ((i : ℕ) → x ≤ i → i < y → gain i ≡ 0) → RaisedIn c gain old from y cells
  over {y} small h none =
      record {
        as_long = so_far.as_long;
        below = so_far.below;
        within = λ i from_here below_y inside. ⊎_elim
            (λ below_x. so_far.within i from_here below_x inside)
            (λ from_x. so_far.above i from_x ∙ sym (ap (λ n. capped c (get_or old i 0 + n)) (none i from_x below_y) ∙ ap (capped c) (add-zero _) ∙ capped_below c (small i)))
            (cases_lt i x);
        above = λ i k. so_far.above i (omega arith);
      }

  -- the cell x is raised
  pub store : {v : ℕ} → from ≤ x → x < length old → v ≡ capped c (get_or cells x 0 + gain x) → RaisedIn c gain old from (suc x) (set cells x v)
  store {v} begun inside e =
      let l = so_far.as_long in
      record {
        as_long = length-set cells x v ∙ so_far.as_long;
        below = λ i k. get_or-set_other cells x i v 0 (λ z. omega arith) ∙ so_far.below i k;
        within = λ i from_here below_y within. ⊎_elim
            (λ below_x. get_or-set_other cells x i v 0 (λ z. omega arith) ∙ so_far.within i from_here below_x within)
            (λ from_x.
            let z : i ≡ x = omega arith in
            rw z (get_or-set_same cells x v 0 (omega arith) ∙ e ∙ ap (λ n. capped c (n + gain x)) (so_far.above x (omega arith))))
            (cases_lt i x);
        above = λ i k. get_or-set_other cells x i v 0 (λ z. omega arith) ∙ so_far.above i (omega arith);
      }

  -- the cells from x on are raised after those below it
  pub joined : {y : ℕ} {more : List ℕ} → from ≤ x → x ≤ y → RaisedIn c gain cells x y more → RaisedIn c gain old from y more
  joined {y} {more} begun h then =
      let l = so_far.as_long in
      record {
        as_long = then.as_long ∙ so_far.as_long;
        below = λ i k. then.below i (omega arith) ∙ so_far.below i k;
        within = λ i from_here below_y inside. ⊎_elim
            (λ below_x. then.below i below_x ∙ so_far.within i from_here below_x inside)
            (λ from_x. then.within i from_x below_y (omega arith) ∙ ap (λ n. capped c (n + gain i)) (so_far.above i from_x))
            (cases_lt i x);
        above = λ i k. then.above i k ∙ so_far.above i (omega arith);
      }

module _ {c : ℕ} {gain : ℕ → ℕ} {start old : List ℕ} {x : ℕ} {cells : List ℕ} (so_far : RaisedFrom c gain start old 0 x cells) where
  -- a part from x on is as it was
  pub untouched : (k : ℕ) → x + k ≤ length old → take k (drop x cells) ≡ take k (drop x old)
  untouched k fits =
      let l = so_far.as_long in
      let here = length-take-le k (drop x cells) (rw (length-drop x cells) (omega arith)) in
      let there = length-take-le k (drop x old) (rw (length-drop x old) (omega arith)) in
      ext_get_or 0 _ _ (here ∙ sym there) λ i inside.
      get_or-take k (drop x cells) i 0 (omega arith)
      ∙ get_or-drop x cells i 0
      ∙ so_far.above (x + i) (omega arith)
      ∙ sym (get_or-take k (drop x old) i 0 (omega arith) ∙ get_or-drop x old i 0)

  -- past the last cell all is done
  pub ends_from : length start ≡ length old → length old ≤ x → cells ≡ raised c gain 0 start
  ends_from as_many h =
      let l = so_far.as_long in
      let k = raised_length c gain 0 start in
      ext_get_or 0 cells (raised c gain 0 start) (omega arith) λ i inside. so_far.within i (omega arith) (omega arith) (omega arith) ∙ sym (raised_get_d c gain 0 start i (omega arith) ∙ ap (λ n. capped c (get_or start i 0 + gain n)) (zero-add i))

  -- a part from x to y is raised by itself
  pub patch_from : {part : List ℕ} (own : ℕ → ℕ) {k y : ℕ} → length start ≡ length old → x + k ≡ y → y ≤ length old → part ≡ raised c own 0 (take k (drop x start)) → ((i : ℕ) → i < k → own i ≡ gain (i + x)) → RaisedFrom c gain start old 0 y (put_mid x k cells part)
  patch_from {part} own {k} {y} as_many ends_at fits e same =
      let l = so_far.as_long in
      let mid : length (take k (drop x cells)) ≡ k = length-take-le k (drop x cells) (rw (length-drop x cells) (omega arith)) in
      let from : length (take k (drop x start)) ≡ k = length-take-le k (drop x start) (rw (length-drop x start) (omega arith)) in
      let long : length part ≡ k = ap length e ∙ raised_length c own 0 (take k (drop x start)) ∙ from in
      let room : x + k ≤ length cells = omega arith in
      let inside : (j : ℕ) → j < k → get_or (put_mid x k cells part) (x + j) 0 ≡ capped c (get_or start (x + j) 0 + gain (x + j)) =
      λ j h.
      put_in cells part x k room long j h
      ∙ ap (λ (m : List ℕ). get_or m j 0) e
      ∙ raised_get_d c own 0 (take k (drop x start)) j (omega arith)
      ∙ ap₂ (λ m n. capped c (m + n))
      (get_or-take k (drop x start) j 0 h ∙ get_or-drop x start j 0)
      (ap own (zero-add j) ∙ same j h ∙ ap gain (omega arith)) in
      record {
        as_long = same_len_mid x k cells part (long ∙ sym mid) ∙ so_far.as_long;
        below = λ i h. absurd (omega arith);
        within = λ i low h inside_old. ⊎_elim
            (λ before. put_before cells part x k room long i before ∙ so_far.within i low before inside_old)
            (λ from.
            let z : i ≡ x + (i - x) = omega arith in
            subst (λ n. get_or (put_mid x k cells part) n 0 ≡ capped c (get_or start n 0 + gain n)) (sym z) (inside (i - x) (omega arith)))
            (cases_lt i x);
        above = λ i h.
            let z : i ≡ x + (k + (i - y)) = omega arith in
            subst (λ n. get_or (put_mid x k cells part) n 0 ≡ get_or old n 0) (sym z) (put_after cells part x k room long (i - y) ∙ so_far.above _ (omega arith));
      }

-- the same of cells that start from what they were
module _ {c : ℕ} {gain : ℕ → ℕ} {old : List ℕ} {x : ℕ} {cells : List ℕ} (so_far : RaisedBelow c gain old x cells) where
  pub ends : length old ≤ x → cells ≡ raised c gain 0 old
  ends h = ends_from so_far refl h

  pub patch : {part : List ℕ} (own : ℕ → ℕ) {k y : ℕ} → x + k ≡ y → y ≤ length old → part ≡ raised c own 0 (take k (drop x cells)) → ((i : ℕ) → i < k → own i ≡ gain (i + x)) → RaisedBelow c gain old y (put_mid x k cells part)
  patch own {k} ends_at fits e same = patch_from so_far own refl ends_at fits (e ∙ ap (raised c own 0) (untouched so_far k (omega arith))) same
