-- The maximal stretches of lines that are so, whatever that is, taken one after the other from a line on: there is one list of them,
-- and it is gone through from stretch to stretch. Assumes nothing.
use Prim.Native.Nat.{ℕ, zero, suc, ◌+◌, ◌*◌, ◌≤◌, ◌<◌}
use native.Mathlib.Decide.{dec_lt, dec_le}
use native.Mathlib.Omega.{arith}
use mathlib.Core.Path.{◌≡◌, refl, sym, ap, ap₂, ◌∙◌}
use mathlib.Core.Logic.{inl, inr}
use mathlib.Core.List.{List, [], ◌∷◌}
use lib.ListN.{length}
use Rattle.blanking.specs.declared.Stretch.{Stretch}
use Rattle.blanking.specs.Stretches.{In, AllMaximal, Rising, InOne, MaximalStretches}
use Rattle.blanking.specs.Inner.{Begins}

-- the stretch from a first to a last line
abbrev pub stretch : ℕ → ℕ → Stretch
stretch first last = record { first = first; last = last }

-- from line x on these are the stretches, one after the other
abbrev pub From : (ℕ → Type 0) → ℕ → List Stretch → Type 0
From So x [] = (j : ℕ) → x ≤ j → So j → ⊥
From So x (s ∷ stretches) = Begins So x s × From So (suc (suc s.last)) stretches

module _ (So : ℕ → Type 0) where
  -- lines that are not so may be passed over
  pub from_skip : (stretches : List Stretch) {x y : ℕ} → x ≤ y → ((j : ℕ) → x ≤ j → j < y → So j → ⊥) → From So x stretches → From So y stretches
  from_skip [] h none f = λ j k. f j (omega arith)
  from_skip (s ∷ stretches) {x} {y} h none f = (begin (dec_lt s.first y), f.1)
    where
      begin : Dec (s.first < y) → Begins So y s
      begin (yes l) = absurd (none s.first f.0.below l (f.0.each s.first (omega arith, f.0.ordered)))
      begin (no l) = record {
        below = omega arith;
        gap = λ j k. f.0.gap j (omega arith);
        ordered = f.0.ordered;
        each = f.0.each;
        after = f.0.after;
      }

  -- and put before again
  from_wait : (stretches : List Stretch) {x y : ℕ} → x ≤ y → ((j : ℕ) → x ≤ j → j < y → So j → ⊥) → From So y stretches → From So x stretches
  from_wait [] {x} {y} h none f = λ j k so. either j k so (dec_lt j y)
    where
      either : (j : ℕ) → x ≤ j → So j → Dec (j < y) → ⊥
      either j k so (yes l) = none j k l so
      either j k so (no l) = f j (omega arith) so
  from_wait (s ∷ stretches) {x} {y} h none f = (begin, f.1)
    where
      either : (j : ℕ) → x ≤ j → j < s.first → So j → Dec (j < y) → ⊥
      either j k m so (yes l) = none j k l so
      either j k m so (no l) = f.0.gap j (omega arith) m so

      begin : Begins So x s
      begin = record {
        below = omega (arith, f.0.below);
        gap = λ j k m so. either j k m so (dec_lt j y);
        ordered = f.0.ordered;
        each = f.0.each;
        after = f.0.after;
      }

  -- lines x to z that are so, and the line after them is not: that is the first stretch
  pub record OneMore (x z : ℕ) (stretches : List Stretch) : Type 0 where
    pub others : List Stretch
    pub is : stretches ≡ stretch x z ∷ others
    pub on : From So (z + 2) others

  pub from_stretch : (stretches : List Stretch) {x z : ℕ} → x ≤ z → ((j : ℕ) → x ≤ j → j ≤ z → So j) → (So (suc z) → ⊥) → From So x stretches → OneMore x z stretches
  from_stretch [] {x} {z} h each after f = absurd (f x (omega arith) (each x (omega arith) h))
  from_stretch (s ∷ stretches) {x} {z} h each after f = go begins (ends (dec_lt s.last z) (dec_lt z s.last))
    where
      begins : s.first ≡ x
      begins = early (dec_lt x s.first)
        where
          early : Dec (x < s.first) → s.first ≡ x
          early (yes l) = absurd (f.0.gap x (omega arith) l (each x (omega arith) h))
          early (no l) = omega (arith, f.0.below)

      ends : Dec (s.last < z) → Dec (z < s.last) → s.last ≡ z
      ends (yes l) m = absurd (f.0.after (each (suc s.last) (omega (arith, f.0.ordered, f.0.below)) (omega arith)))
      ends (no l) (yes m) = absurd (after (f.0.each (suc z) (omega (arith, begins), omega arith)))
      ends (no l) (no m) = omega arith

      go : s.first ≡ x → s.last ≡ z → OneMore x z (s ∷ stretches)
      go b e = record { others = stretches; is = ap₂ (λ first last. stretch first last ∷ stretches) b e; on = let two : suc (suc s.last) ≡ z + 2 = omega arith in rw two at f.1 }

  -- past every line that is so there is no stretch
  pub from_end : (stretches : List Stretch) {x : ℕ} → ((j : ℕ) → So j → j < x) → From So x stretches → stretches ≡ []
  from_end [] past f = refl
  from_end (s ∷ stretches) past f = absurd (omega (arith, past s.first (f.0.each s.first (omega arith, f.0.ordered)), f.0.below))

  -- there is one list of them
  pub from_unique : (a b : List Stretch) (x : ℕ) → From So x a → From So x b → a ≡ b
  from_unique [] [] x f g = refl
  from_unique [] (t ∷ b) x f g = absurd (f t.first g.0.below (g.0.each t.first (omega arith, g.0.ordered)))
  from_unique (s ∷ a) b x f g =
      let to = from_skip b f.0.below f.0.gap g in
      let same = from_stretch b f.0.ordered (λ j h k. f.0.each j (h, k)) f.0.after to in
      ap (λ more. s ∷ more) (from_unique a same.others (suc (suc s.last)) f.1 (let two : s.last + 2 ≡ suc (suc s.last) = omega arith in rw two at same.on)) ∙ sym same.is

  -- ---- the definition that says "maximal stretches", and the stretches from a line on

  from_maximal : (stretches : List Stretch) {x : ℕ} → ((j : ℕ) → suc j ≡ x → So j → ⊥) → From So x stretches → AllMaximal So stretches
  from_maximal [] clear f = tt
  from_maximal (s ∷ stretches) {x} clear f = (record { ordered = f.0.ordered; each = f.0.each; before = λ j e so. before j e so (dec_le x j); after = f.0.after }, from_maximal stretches (λ j e so. f.0.after (rw (next j e) at so)) f.1)
    where
      before : (j : ℕ) → suc j ≡ s.first → So j → Dec (x ≤ j) → ⊥
      before j e so (yes l) = f.0.gap j l (omega arith) so
      before j e so (no l) = clear j (omega (arith, f.0.below)) so

      next : (j : ℕ) → suc j ≡ suc (suc s.last) → j ≡ suc s.last
      next j e = omega arith

  from_every : (stretches : List Stretch) {x : ℕ} → From So x stretches → (j : ℕ) → x ≤ j → So j → InOne stretches j
  from_every [] f j h so = absurd (f j h so)
  from_every (s ∷ stretches) {x} f j h so = go (λ n. from_every stretches f.1 j n so) (dec_lt j s.first) (dec_le j s.last) (dec_le (suc (suc s.last)) j)
    where
      go : (suc (suc s.last) ≤ j → InOne stretches j) → Dec (j < s.first) → Dec (j ≤ s.last) → Dec (suc (suc s.last) ≤ j) → InOne (s ∷ stretches) j
      go more (yes l) m n = absurd (f.0.gap j h l so)
      go more (no l) (yes m) n = inl (omega arith, m)
      go more (no l) (no m) (yes n) = inr (more n)
      go more (no l) (no m) (no n) = let e : j ≡ suc s.last = omega arith in absurd (f.0.after (rw e at so))

  from_rising : (stretches : List Stretch) (x : ℕ) → From So x stretches → Rising stretches
  from_rising [] x f = tt
  from_rising (s ∷ []) x f = tt
  from_rising (s ∷ t ∷ stretches) x f = (omega (arith, f.1.0.below), from_rising (t ∷ stretches) (suc (suc s.last)) f.1)

  -- what stands after a stretch comes after it
  later : (s : Stretch) (stretches : List Stretch) → AllMaximal So stretches → Rising (s ∷ stretches) → (j : ℕ) → InOne stretches j → suc s.last < j
  later s [] m r j i = absurd i
  later s (t ∷ stretches) m r j (inl i) = omega arith
  later s (t ∷ stretches) m r j (inr i) = omega (arith, later t stretches m.1 r.1 j i, m.0.ordered)

  -- the first stretch does not begin before x
  abbrev Starts : ℕ → List Stretch → Type 0
  Starts x [] = Unit {0}
  Starts x (s ∷ stretches) = x ≤ s.first

  starts_next : (s : Stretch) (stretches : List Stretch) → Rising (s ∷ stretches) → Starts (suc (suc s.last)) stretches
  starts_next s [] r = tt
  starts_next s (t ∷ stretches) r = r.0

  rising_tail : (s : Stretch) (stretches : List Stretch) → Rising (s ∷ stretches) → Rising stretches
  rising_tail s [] r = tt
  rising_tail s (t ∷ stretches) r = r.1

  to_from : (stretches : List Stretch) {x : ℕ} → AllMaximal So stretches → ((j : ℕ) → x ≤ j → So j → InOne stretches j) → Rising stretches → Starts x stretches → From So x stretches
  to_from [] m every r b = every
  to_from (s ∷ stretches) {x} m every r b = (begin, to_from stretches m.1 (λ j h so. after j h (every j (omega (arith, m.0.ordered)) so)) (rising_tail s stretches r) (starts_next s stretches r))
    where
      early : (j : ℕ) → j < s.first → InOne (s ∷ stretches) j → ⊥
      early j h (inl i) = omega arith
      early j h (inr i) = omega (arith, later s stretches m.1 r j i, m.0.ordered)

      after : (j : ℕ) → suc (suc s.last) ≤ j → InOne (s ∷ stretches) j → InOne stretches j
      after j h (inl i) = absurd (omega arith)
      after j h (inr i) = i

      begin : Begins So x s
      begin = record {
        below = b;
        gap = λ j h k so. early j k (every j h so);
        ordered = m.0.ordered;
        each = m.0.each;
        after = m.0.after;
      }

  -- no line is before line 0
  starts_zero : (stretches : List Stretch) → Starts 0 stretches
  starts_zero [] = tt
  starts_zero (s ∷ stretches) = omega arith

  pub stretches_from : {stretches : List Stretch} {x : ℕ} → ((j : ℕ) → So j → x ≤ j) → MaximalStretches So stretches → From So x stretches
  stretches_from {stretches} {x} first m =
      from_skip stretches {x = 0} (omega arith) (λ j h k so. omega (arith, first j so)) (to_from stretches m.maximal (λ j h. m.every j) m.rising (starts_zero stretches))

  pub from_stretches : {stretches : List Stretch} → From So 0 stretches → MaximalStretches So stretches
  from_stretches {stretches} f = record {
    maximal = from_maximal stretches (λ j e. absurd (omega arith)) f;
    every = λ j. from_every stretches f j (omega arith);
    rising = from_rising stretches 0 f;
  }

  -- ---- some list is

  -- a line that is so before the others
  joined : (x : ℕ) (stretches : List Stretch) → So x → From So (suc x) stretches → (more : List Stretch) × From So x more
  joined x [] so f = (stretch x x ∷ [], (record { below = omega arith; gap = λ j h k. absurd (omega arith); ordered = omega arith; each = λ j i. let e : x ≡ j = omega arith in rw e at so; after = f (suc x) (omega arith) }, λ j h. f j (omega arith)))
  joined x (s ∷ stretches) so f = go (dec_lt (suc x) s.first)
    where
      go : Dec (suc x < s.first) → (more : List Stretch) × From So x more
      go (yes l) = (stretch x x ∷ s ∷ stretches, (record { below = omega arith; gap = λ j h k. absurd (omega arith); ordered = omega arith; each = λ j i. let e : x ≡ j = omega arith in rw e at so; after = f.0.gap (suc x) (omega arith) l }, from_skip (s ∷ stretches) (omega arith) (λ j h k. f.0.gap j h (omega arith)) f))
      go (no l) = (stretch x s.last ∷ stretches, (record { below = omega arith; gap = λ j h k. absurd (omega arith); ordered = omega (arith, f.0.ordered, f.0.below); each = λ j i. each j i (dec_le s.first j); after = f.0.after }, f.1))
        where
          each : (j : ℕ) → In (stretch x s.last) j → Dec (s.first ≤ j) → So j
          each j i (yes k) = f.0.each j (k, i.1)
          each j i (no k) = let e : x ≡ j = omega (arith, f.0.below) in rw e at so

  build : ((j : ℕ) → Dec (So j)) → (end : ℕ) → ((j : ℕ) → So j → j < end) → (n x : ℕ) → x + n ≡ end → (stretches : List Stretch) × From So x stretches
  build dec end past zero x e = ([], λ j h so. omega (arith, past j so))
  build dec end past (suc n) x e = go (dec x) (build dec end past n (suc x) (omega arith))
    where
      go : Dec (So x) → (stretches : List Stretch) × From So (suc x) stretches → (stretches : List Stretch) × From So x stretches
      go (yes so) later = joined x later.0 so later.1
      go (no not) later = (later.0, from_wait later.0 (omega arith) (λ j h k so. let e : j ≡ x = omega arith in not (rw e at so)) later.1)

  -- Some list is that of the maximal stretches, where each line is known to be so or not, and none is from `end` on.
  pub stretches_exist : ((j : ℕ) → Dec (So j)) → (end : ℕ) → ((j : ℕ) → So j → j < end) → (stretches : List Stretch) × MaximalStretches So stretches
  stretches_exist dec end past = let made = build dec end past end 0 (omega arith) in (made.0, from_stretches made.1)

  -- two stretches have a line between them: up to `end` there is room for so many
  pub from_few : (stretches : List Stretch) {x end : ℕ} → ((j : ℕ) → So j → j < end) → x ≤ suc end → From So x stretches → x + 2 * length stretches ≤ suc end
  from_few [] past h f = omega arith
  from_few (s ∷ stretches) {x} {end} past h f =
      let inside = past s.last (f.0.each s.last (f.0.ordered, omega arith)) in
      omega (arith, f.0.below, f.0.ordered, from_few stretches past (omega (arith, inside)) f.1)

  -- ---- from stretch to stretch, as the code finds them

  -- the next stretch that is found is the first of these
  pub from_next : (stretches : List Stretch) {line : ℕ} {s : Stretch} → Begins So line s → From So line stretches → OneMore s.first s.last stretches
  from_next stretches b f = from_stretch stretches b.ordered (λ j h k. b.each j (h, k)) b.after (from_skip stretches b.below b.gap f)

  -- and where none is found, there is none
  pub from_none : (stretches : List Stretch) {line : ℕ} → ((j : ℕ) → line ≤ j → So j → ⊥) → From So line stretches → stretches ≡ []
  from_none [] none f = refl
  from_none (s ∷ stretches) none f = absurd (none s.first f.0.below (f.0.each s.first (omega arith, f.0.ordered)))

-- No second list is that of the maximal stretches.
pub stretches_unique : {So : ℕ → Type 0} {a b : List Stretch} → MaximalStretches So a → MaximalStretches So b → a ≡ b
stretches_unique {So} {a} {b} m n = from_unique So a b 0 (stretches_from So (λ j so. omega arith) m) (stretches_from So (λ j so. omega arith) n)
