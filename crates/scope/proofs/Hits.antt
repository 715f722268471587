-- Hits. First the rule in natural numbers: with d the distance of a cell from the window's left edge, the source hits it on
-- line j exactly if d + s and T·j + I/2 have one remainder by the period (`On`); whoever walks uses the laws of `On` alone.
-- Then the list of hits: how it goes on from a cell, what it holds, and what blocks make of it. Assumes nothing.
use Prim.Native.Nat.{ℕ, zero, suc, ◌+◌, ◌-◌, ◌*◌, ◌/◌, ◌%◌, ◌≤◌, ◌<◌}
use native.Mathlib.Nat.{mod-lt, add-mod_right, div-add-mod', mod-add-div', mul-le-mul_right, add-zero, zero-add, suc-add}
use native.Mathlib.Decide.{dec_lt}
use native.Mathlib.Omega.{arith}
use mathlib.Core.Path.{◌≡◌, refl, sym, ap, ◌∙◌}
use mathlib.Core.Logic.Iff
use mathlib.Core.Logic.{◌↔◌, ◌⊎◌, inl, inr}
use mathlib.Core.Bool.{Bool, true, false, cond, true≢false}
use mathlib.Core.List.Memᴰ
use mathlib.Core.List.{List, [], ◌∷◌, ◌++◌, map, Memᴰ}
use lib.ListN.{length}
use lib.IntN.{ℤ, pos, neg_ℤ, ◌+ℤ◌, ◌-ℤ◌}
use Rattle.signed.proofs.Parts.{parts, sum, neg_up, neg_dn}
use Rattle.signed.proofs.Divides.{divides_apart, divides_test, multiples_mod}
use Rattle.scope.specs.declared.Run.{Run}
use Rattle.scope.specs.declared.Source.{Source}
use Rattle.scope.specs.Run.{ValidRun, ValidSource, lines_of, cells_of, line_of, offset_of, shift_of}
use Rattle.scope.specs.Hit.{instant, Hits, is_hit, hits_among, hits_from}
use Rattle.scope.proofs.Limits.{of_cond}
use Rattle.scope.proofs.Numbering.{offset_distance, cell_parts, IsBlock, line_shift, offset_shift}

-- ---- the rule in natural numbers

-- numbers with one remainder by p are whole periods apart
whole_periods : (p d e : ℕ) → d % p ≡ e % p → d < e → d + p ≤ e
whole_periods p d e same h = go (dec_lt (d / p) (e / p))
  where
    go : Dec (d / p < e / p) → d + p ≤ e
    go (yes l) = omega (arith, div-add-mod' d p, div-add-mod' e p, mul-le-mul_right p l)
    go (no l) = absurd (omega (arith, div-add-mod' d p, div-add-mod' e p, mul-le-mul_right {m = e / p} {n = d / p} p (omega arith)))

-- the source hits the cell at distance d from the left edge of line j
unfoldable pub On : Run → Source → ℕ → ℕ → Type 0
On run source d j = (run.interval * j + run.window / 2) % source.period ≡ (d + source.phase) % source.period

-- a distance at which the source hits line 0, its phase being below its period: a walk starts from there
abbrev pub origin : Run → Source → ℕ
origin run source = run.window / 2 + (source.period - source.phase)

pub on_origin : (run : Run) {source : Source} → ValidSource source → (d j : ℕ) → On run source d j ↔ ((run.interval * j + origin run source) % source.period ≡ d % source.period)
unfolding On
on_origin run {source} v d j =
    let p = source.period in
    let s = source.phase in
    let t = run.interval * j + run.window / 2 in
    let whole : s + (p - s) ≡ p = omega (arith, v.phased) in
    let near = multiples_mod p t (d + s) in
    let far = multiples_mod p (run.interval * j + origin run source) d in (
      λ e. let m = near.1 e in far.0 (m.0, m.1 + 1, omega (arith, m.2)),
      λ e. let m = far.1 e in near.0 (m.0 + 1, m.1, omega (arith, m.2)),
    )

-- the rule and `On`: the offset i by its distance d, then the cell x
pub hits_on : (run : Run) (source : Source) (i : ℤ) (j d : ℕ) → i +ℤ pos (run.window / 2) ≡ pos d → Hits run source i j ↔ On run source d j
unfolding Hits instant On
hits_on run source i j d e =
    let t = run.interval * j in
    let h = run.window / 2 in
    let s = source.phase in
    divides_apart source.period (t + h) (d + s) (pos t -ℤ i) (pos s) (omega (arith, parts, neg_up i, neg_dn i, sum (pos t) (neg_ℤ i), sum (pos t -ℤ i) (pos (d + s)), sum (pos s) (pos (t + h)), sum i (pos h)))

pub hit_hits : (run : Run) (source : Source) (x : ℕ) → (is_hit run source x ≡ true) ↔ Hits run source (offset_of run x) (line_of run x)
unfolding is_hit Hits
hit_hits run source x = divides_test source.period (instant run (offset_of run x) (line_of run x) -ℤ pos source.phase)

pub hit_on : (run : Run) (source : Source) (x : ℕ) → (is_hit run source x ≡ true) ↔ On run source (x % run.window) (line_of run x)
hit_on run source x =
    let h = hit_hits run source x in
    let o = hits_on run source (offset_of run x) (line_of run x) (x % run.window) (offset_distance run x) in
    (λ e. o.0 (h.0 e), λ n. h.1 (o.1 n))

-- a cell is hit or is not
pub hit_or_miss : (b : Bool) → (b ≡ true) ⊎ (b ≡ false)
hit_or_miss true = inl refl
hit_or_miss false = inr refl

pub miss_on : (run : Run) (source : Source) (x : ℕ) → (is_hit run source x ≡ false) ↔ (On run source (x % run.window) (line_of run x) → ⊥)
miss_on run source x = (λ e n. true≢false (sym ((hit_on run source x).1 n) ∙ e), λ f. go (hit_or_miss (is_hit run source x)) f)
  where
    go : (is_hit run source x ≡ true) ⊎ (is_hit run source x ≡ false) → (On run source (x % run.window) (line_of run x) → ⊥) → is_hit run source x ≡ false
    go (inl h) f = absurd (f ((hit_on run source x).0 h))
    go (inr m) f = m

-- two tests that are true together are one
same_test : (a b : Bool) → (a ≡ true) ↔ (b ≡ true) → a ≡ b
same_test true b e = sym (e.0 refl)
same_test false true e = e.1 refl
same_test false false e = refl

-- whole periods do not matter; after a hit the next on its line is a period on or later
pub on_period : (run : Run) (source : Source) (d j : ℕ) → On run source (d + source.period) j ↔ On run source d j
unfolding On
on_period run source d j =
    let aside : d + source.period + source.phase ≡ d + source.phase + source.period = omega arith in
    rw (aside, add-mod_right (d + source.phase) source.period) (λ o. o, λ o. o)

pub on_gap : (run : Run) (source : Source) (d e j : ℕ) → On run source d j → On run source e j → d < e → d + source.period ≤ e
unfolding On
on_gap run source d e j a b h = omega (arith, whole_periods source.period (d + source.phase) (e + source.phase) (sym a ∙ b) (omega arith))

-- "For p ≥ I there is at most one hit on a line."
pub one_on_line : (run : Run) (source : Source) (d e j : ℕ) → run.window ≤ source.period → d < run.window → e < run.window → On run source d j → On run source e j → d ≡ e
one_on_line run source d e j wide h k a b = go (dec_lt d e) (dec_lt e d)
  where
    go : Dec (d < e) → Dec (e < d) → d ≡ e
    go (yes l) m = absurd (omega (arith, on_gap run source d e j a b l))
    go (no l) (yes m) = absurd (omega (arith, on_gap run source e d j b a m))
    go (no l) (no m) = omega arith

pub one_hit_on_line : {run : Run} → ValidRun run → (source : Source) (x y : ℕ) → run.window ≤ source.period → is_hit run source x ≡ true → is_hit run source y ≡ true → line_of run x ≡ line_of run y → x ≡ y
one_hit_on_line {run} v source x y wide a b e =
    let same = one_on_line run source (x % run.window) (y % run.window) (line_of run y) wide (mod-lt x (omega arith)) (mod-lt y (omega arith)) (rw e at ((hit_on run source x).0 a)) ((hit_on run source y).0 b) in
    sym (cell_parts run x) ∙ rw (e, same) (cell_parts run y)

-- a block's cell is hit exactly if it is hit in the run
pub hit_shift : {run block : Run} → ValidRun run → IsBlock run block → (source : Source) (x : ℕ) → is_hit block source x ≡ is_hit run source (x + shift_of run block)
unfolding is_hit instant
hit_shift v b source x = rw (offset_shift b x, line_shift v b x, b.interval)

-- ---- the list of hits

-- z is a hit, not below x and below y
abbrev pub HitBetween : Run → Source → ℕ → ℕ → ℕ → Type 0
HitBetween run source x y z = (x ≤ z) × (z < y) × (is_hit run source z ≡ true)

-- strictly rising, from x on
abbrev pub Rising : ℕ → List ℕ → Type 0
Rising x [] = Unit {0}
Rising x (y ∷ ys) = (x ≤ y) × Rising (suc y) ys

rising_from : (ys : List ℕ) {x y : ℕ} → x ≤ y → Rising y ys → Rising x ys
rising_from [] h r = tt
rising_from (z ∷ zs) h r = (omega arith, r.1)

module _ (run : Run) (source : Source) where
  among_hit : (x n : ℕ) → is_hit run source x ≡ true → hits_among run source x (suc n) ≡ x ∷ hits_among run source (suc x) n
  unfolding hits_among
  among_hit x n e = rw e

  among_miss : (x n : ℕ) → is_hit run source x ≡ false → hits_among run source x (suc n) ≡ hits_among run source (suc x) n
  unfolding hits_among
  among_miss x n e = rw e

  -- past the last cell
  pub hits_end : (x : ℕ) → cells_of run ≤ x → hits_from run source x ≡ []
  unfolding hits_from hits_among
  hits_end x h = let z : cells_of run - x ≡ 0 = omega arith in rw z

  -- at a hit
  pub hits_at : (x : ℕ) → x < cells_of run → is_hit run source x ≡ true → hits_from run source x ≡ x ∷ hits_from run source (suc x)
  unfolding hits_from
  hits_at x h e = let z : cells_of run - x ≡ suc (cells_of run - suc x) = omega arith in rw z (among_hit x (cells_of run - suc x) e)

  -- at another cell
  pub hits_skip : (x : ℕ) → is_hit run source x ≡ false → hits_from run source x ≡ hits_from run source (suc x)
  hits_skip x e = go (dec_lt x (cells_of run))
    where
      inside : x < cells_of run → hits_among run source x (cells_of run - x) ≡ hits_among run source (suc x) (cells_of run - suc x)
      inside h = let z : cells_of run - x ≡ suc (cells_of run - suc x) = omega arith in rw z (among_miss x (cells_of run - suc x) e)

      go : Dec (x < cells_of run) → hits_from run source x ≡ hits_from run source (suc x)
      go (yes h) = unfold hits_from in inside h
      go (no h) = hits_end x (omega arith) ∙ sym (hits_end (suc x) (omega arith))

  hits_pass : (k x : ℕ) → ((z : ℕ) → x ≤ z → z < x + k → is_hit run source z ≡ false) → hits_from run source x ≡ hits_from run source (x + k)
  hits_pass zero x f = rw (add-zero x)
  hits_pass (suc k) x f =
      let next : x + suc k ≡ suc x + k = omega arith in
      rw next (hits_skip x (f x (omega arith) (omega arith)) ∙ hits_pass k (suc x) (λ z h l. f z (omega arith) (omega arith)))

  -- no hit in between
  pub hits_over : (x y : ℕ) → x ≤ y → ((z : ℕ) → x ≤ z → z < y → is_hit run source z ≡ false) → hits_from run source x ≡ hits_from run source y
  hits_over x y h f =
      let e : x + (y - x) ≡ y = omega arith in
      rw e at (hits_pass (y - x) x (λ z k l. f z k (omega arith)))

  -- m cells and then n cells
  pub hits_split : (x m n : ℕ) → hits_among run source x (m + n) ≡ hits_among run source x m ++ hits_among run source (x + m) n
  unfolding hits_among
  hits_split x zero n = rw (zero-add n, add-zero x)
  hits_split x (suc m) n =
      let next : x + suc m ≡ suc x + m = omega arith in
      let more = hits_among run source (suc x) m in
      let rest = hits_among run source (suc x + m) n in
      rw (suc-add m n, next, hits_split (suc x) m n) (sym (of_cond (λ l. l ++ rest) (is_hit run source x) (x ∷ more) more))

  pub length_hits : (x n : ℕ) → length (hits_among run source x n) ≤ n
  unfolding hits_among
  length_hits x zero = omega arith
  length_hits x (suc n) = go (is_hit run source x) (length_hits (suc x) n)
    where
      more : List ℕ
      more = hits_among run source (suc x) n

      go : (b : Bool) → length more ≤ n → length (cond b (x ∷ more) more) ≤ suc n
      go true h = omega arith
      go false h = omega arith

  -- the list holds the hits, none besides
  member_hit : (x n : ℕ) {z : ℕ} → Memᴰ z (hits_among run source x n) → HitBetween run source x (x + n) z
  unfolding hits_among
  member_hit x zero m = absurd (Memᴰ.not-nil m)
  member_hit x (suc n) {z} m = go (is_hit run source x) refl (λ r. later (member_hit (suc x) n r)) m
    where
      more : List ℕ
      more = hits_among run source (suc x) n

      later : HitBetween run source (suc x) (suc x + n) z → HitBetween run source x (x + suc n) z
      later h = (omega arith, omega arith, h.2)

      now : is_hit run source x ≡ true → (Memᴰ z more → HitBetween run source x (x + suc n) z) → (z ≡ x) ⊎ Memᴰ z more → HitBetween run source x (x + suc n) z
      now e f (inl s) = (omega arith, omega arith, ap (is_hit run source) s ∙ e)
      now e f (inr r) = f r

      go : (b : Bool) → is_hit run source x ≡ b → (Memᴰ z more → HitBetween run source x (x + suc n) z) → Memᴰ z (cond b (x ∷ more) more) → HitBetween run source x (x + suc n) z
      go true e f r = now e f (Memᴰ.cases_cons r)
      go false e f r = f r

  hit_member : (x n : ℕ) {z : ℕ} → HitBetween run source x (x + n) z → Memᴰ z (hits_among run source x n)
  unfolding hits_among
  hit_member x zero h = absurd (omega arith)
  hit_member x (suc n) {z} h = go (is_hit run source x) refl (dec_lt x z) (λ k. hit_member (suc x) n (k, omega arith, h.2))
    where
      more : List ℕ
      more = hits_among run source (suc x) n

      go : (b : Bool) → is_hit run source x ≡ b → Dec (x < z) → (suc x ≤ z → Memᴰ z more) → Memᴰ z (cond b (x ∷ more) more)
      go true i (yes k) f = Memᴰ.tail (f k)
      go false i (yes k) f = f k
      go true i (no k) f = let s : z ≡ x = omega arith in Memᴰ.head s
      go false i (no k) f = let s : z ≡ x = omega arith in absurd (true≢false (sym h.2 ∙ ap (is_hit run source) s ∙ i))

  pub hits_member : (x z : ℕ) → Memᴰ z (hits_from run source x) ↔ HitBetween run source x (cells_of run) z
  unfolding hits_from
  hits_member x z = (
    λ m. let p = member_hit x (cells_of run - x) m in (p.0, omega arith, p.2),
    λ p. hit_member x (cells_of run - x) (p.0, omega arith, p.2),
  )

  among_rising : (x n : ℕ) → Rising x (hits_among run source x n)
  unfolding hits_among
  among_rising x zero = tt
  among_rising x (suc n) = go (is_hit run source x) (among_rising (suc x) n)
    where
      more : List ℕ
      more = hits_among run source (suc x) n

      go : (b : Bool) → Rising (suc x) more → Rising x (cond b (x ∷ more) more)
      go true r = (omega arith, r)
      go false r = rising_from more (omega arith) r

  pub hits_rising : (x : ℕ) → Rising x (hits_from run source x)
  unfolding hits_from
  hits_rising x = among_rising x (cells_of run - x)

-- a block's hits are the run's, moved by the block's shift
hits_shift : {run block : Run} → ValidRun run → IsBlock run block → (source : Source) (x n : ℕ) → map (λ z. z + shift_of run block) (hits_among block source x n) ≡ hits_among run source (x + shift_of run block) n
unfolding hits_among
hits_shift v b source x zero = refl
hits_shift {run} {block} v b source x (suc n) =
    let move = map (λ z. z + shift_of run block) in
    let more = hits_among block source (suc x) n in
    let next : suc x + shift_of run block ≡ suc (x + shift_of run block) = omega arith in
    of_cond move (is_hit block source x) (x ∷ more) more ∙ rw (hit_shift v b source x, hits_shift v b source (suc x) n, next)

pub hits_block : {run block : Run} → ValidRun run → IsBlock run block → (source : Source) (x : ℕ) → map (λ z. z + shift_of run block) (hits_from block source x) ≡ hits_among run source (x + shift_of run block) (cells_of block - x)
unfolding hits_from
hits_block {run} {block} v b source x = hits_shift v b source x (cells_of block - x)

-- ---- "With r = T mod p": of the interval the remainder by the period matters, and nothing else

-- the run with another interval
abbrev pub with_interval : Run → ℕ → Run
with_interval run r = record { window = run.window; interval = r; first = run.first; last = run.last }

module _ (run : Run) (source : Source) (r : ℕ) (same : run.interval % source.period ≡ r % source.period) where
  ticks_remainder : (j o : ℕ) → (run.interval * j + o) % source.period ≡ (r * j + o) % source.period
  ticks_remainder j o =
      let T = run.interval in
      let p = source.period in
      let e : T + r / p * p ≡ r + T / p * p = omega (arith, mod-add-div' T p, mod-add-div' r p) in
      (multiples_mod p (T * j + o) (r * j + o)).0 (r / p * j, T / p * j, omega (arith, ap (λ n. n * j) e))

  on_remainder : (d j : ℕ) → On run source d j ↔ On (with_interval run r) source d j
  unfolding On
  on_remainder d j = rw (ticks_remainder j (run.window / 2)) (λ o. o, λ o. o)

  hit_remainder : (x : ℕ) → is_hit run source x ≡ is_hit (with_interval run r) source x
  unfolding line_of
  hit_remainder x = same_test _ _ (Iff.trans (hit_on run source x) (Iff.trans (on_remainder (x % run.window) (line_of run x)) (back.1, back.0)))
    where
      back : (is_hit (with_interval run r) source x ≡ true) ↔ On (with_interval run r) source (x % run.window) (line_of run x)
      back = hit_on (with_interval run r) source x

  among_remainder : (x n : ℕ) → hits_among run source x n ≡ hits_among (with_interval run r) source x n
  unfolding hits_among
  among_remainder x zero = refl
  among_remainder x (suc n) = rw (hit_remainder x, among_remainder (suc x) n)

  -- runs whose intervals have one remainder by the period have the same hits
  pub hits_remainder : (x : ℕ) → hits_from run source x ≡ hits_from (with_interval run r) source x
  unfolding hits_from cells_of lines_of
  hits_remainder x = among_remainder x (cells_of run - x)

-- ---- a rising list is told by its members

rising_member : {x z : ℕ} (l : List ℕ) → Rising x l → Memᴰ z l → x ≤ z
rising_member [] r m = absurd (Memᴰ.not-nil m)
rising_member {x} {z} (y ∷ ys) r m = go (Memᴰ.cases_cons m) (rising_member ys r.1)
  where
    go : (z ≡ y) ⊎ Memᴰ z ys → (Memᴰ z ys → suc y ≤ z) → x ≤ z
    go (inl e) f = omega arith
    go (inr n) f = let h = f n in omega arith

-- a head of one list is no later than the head of the other
head_first : {a b : ℕ} (m : List ℕ) → Rising (suc b) m → Memᴰ a (b ∷ m) → b ≤ a
head_first m r h = rising_member (_ ∷ m) (omega arith, r) h

-- what is in the list and is not its head is in the tail
not_head : {b z : ℕ} (m : List ℕ) → b < z → Memᴰ z (b ∷ m) → Memᴰ z m
not_head {b} {z} m h r = go (Memᴰ.cases_cons r)
  where
    go : (z ≡ b) ⊎ Memᴰ z m → Memᴰ z m
    go (inl e) = absurd (omega arith)
    go (inr n) = n

pub rising_same : (x : ℕ) (l m : List ℕ) → Rising x l → Rising x m → ((z : ℕ) → Memᴰ z l ↔ Memᴰ z m) → l ≡ m
rising_same x [] [] r s e = refl
rising_same x [] (b ∷ m) r s e = absurd (Memᴰ.not-nil ((e b).1 (Memᴰ.head refl)))
rising_same x (a ∷ l) [] r s e = absurd (Memᴰ.not-nil ((e a).0 (Memᴰ.head refl)))
rising_same x (a ∷ l) (b ∷ m) r s e =
    let high = head_first m s.1 ((e a).0 (Memᴰ.head refl)) in
    let low = head_first l r.1 ((e b).1 (Memᴰ.head refl)) in
    let heads : a ≡ b = omega arith in
    let tails =
    rising_same (suc b) l m (rw heads at r.1) s.1
    (λ z. (
      λ n. not_head m (rising_member l (rw heads at r.1) n) ((e z).0 (Memᴰ.tail n)),
      λ n. not_head l (rw (← heads) at (rising_member m s.1 n)) ((e z).1 (Memᴰ.tail n)),
    ))
    in
    cc
