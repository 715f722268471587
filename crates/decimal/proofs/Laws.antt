-- The laws of `digits`: its last digit, its value, its length, and that digits up to a byte that is none are read in one way.
-- Assumes nothing.
use Prim.Native.Nat.{ℕ, zero, suc, ◌+◌, ◌*◌, ◌-◌, ◌/◌, ◌%◌, ◌<◌, ◌≤◌, ◌^◌}
use mathlib.Core.Path.{◌≡◌, refl, sym, ap, ◌∙◌}
use mathlib.Core.Bool.{Bool, true, false, ◌&&◌, true≢false, false≢true}
use mathlib.Core.List.{List, [], ◌∷◌, ◌++◌, tail-eq_of_cons-eq}
use native.Mathlib.Nat.{pow-suc}
use native.Mathlib.Decide.{dec_lt}
use native.Mathlib.Omega.{arith}
use lib.ListN.{length, get_or, length-append, get_or-append}
use lib.Dec.{leb}
use borrow.Author.Tests.{lt-ltb, le-ltb, leb-true, le-leb}
use Rattle.decimal.specs.Digits.{largest, digits, digits_within}
use Rattle.decimal.specs.Inner.{is_digit, begins_with_digit}

-- ---- the smallest and the largest number of a text

zero_spelled : digits 0 ≡ 48 ∷ []
unfolding digits digits_within
zero_spelled = refl

largest_spelled : digits 4294967295 ≡ 52 ∷ 50 ∷ 57 ∷ 52 ∷ 57 ∷ 54 ∷ 55 ∷ 50 ∷ 57 ∷ 53 ∷ []
unfolding digits digits_within
largest_spelled = refl

-- ---- the last digit

within_one : (most n : ℕ) → n < 10 → digits_within (suc most) n ≡ (48 + n) ∷ []
unfolding digits_within
within_one most n h = rw (lt-ltb n 10 h, digits_within)

within_more : (most n : ℕ) → 10 ≤ n → digits_within (suc most) n ≡ digits_within most (n / 10) ++ ((48 + n % 10) ∷ [])
unfolding digits_within
within_more most n h = rw (le-ltb n 10 h, digits_within)

-- a bound above n is as good as any other
within_any : (j k n : ℕ) → n < j → n < k → digits_within j n ≡ digits_within k n
within_any zero k n p q = absurd (omega arith)
within_any (suc j) zero n p q = absurd (omega arith)
within_any (suc j) (suc k) n p q =
    elim (dec_lt n 10) [
      | yes h ↦ within_one j n h ∙ sym (within_one k n h)
      | no h ↦
          let rest = within_any j k (n / 10) (omega arith) (omega arith) in
          within_more j n (omega arith) ∙ ap (λ l. l ++ ((48 + n % 10) ∷ [])) rest ∙ sym (within_more k n (omega arith))
    ]

-- a number below 10 is one digit
pub digits_one : (n : ℕ) → n < 10 → digits n ≡ (48 + n) ∷ []
unfolding digits
digits_one n h = within_one n n h

-- from 10 on, the last digit follows those of n / 10
pub digits_more : (n : ℕ) → 10 ≤ n → digits n ≡ digits (n / 10) ++ ((48 + n % 10) ∷ [])
unfolding digits
digits_more n h =
    within_more n n h ∙ ap (λ l. l ++ ((48 + n % 10) ∷ [])) (within_any n (suc (n / 10)) (n / 10) (omega arith) (omega arith))

-- a digit d after those of v, which is not 0, makes v * 10 + d
pub digits_snoc : (v d : ℕ) → 0 < v → d < 10 → digits (v * 10 + d) ≡ digits v ++ ((48 + d) ∷ [])
digits_snoc v d hv hd =
    let q : (v * 10 + d) / 10 ≡ v = omega arith in
    let r : (v * 10 + d) % 10 ≡ d = omega arith in
    rw (digits_more (v * 10 + d) (omega arith), q, r)

-- induction along the digits: below 10, and from n / 10 to n
by_tens {ℓ} : (P : ℕ → Type ℓ) → ((n : ℕ) → n < 10 → P n) → ((n : ℕ) → 10 ≤ n → P (n / 10) → P n) → (n : ℕ) → P n
by_tens P one more n = go n n (omega arith)
  where
    go : (most m : ℕ) → m ≤ most → P m
    go zero m h = one m (omega arith)
    go (suc most) m h =
        elim (dec_lt m 10) [
          | yes l ↦ one m l
          | no l ↦ more m (omega arith) (go most (m / 10) (omega arith))
        ]

-- ---- the length

pub length_one : (n : ℕ) → n < 10 → length (digits n) ≡ 1
length_one n h = ap length (digits_one n h)

pub length_more : (n : ℕ) → 10 ≤ n → length (digits n) ≡ length (digits (n / 10)) + 1
length_more n h = ap length (digits_more n h) ∙ length-append (digits (n / 10)) _

-- a number has at least one digit
length_pos : (n : ℕ) → 0 < length (digits n)
length_pos = by_tens (λ n. 0 < length (digits n)) (λ n h. omega (arith, length_one n h)) (λ n h i. omega (arith, length_more n h))

-- a number below 10 ^ (k + 1) has at most k + 1 digits
pub length_le : (k n : ℕ) → n < 10 ^ suc k → length (digits n) ≤ suc k
length_le zero n h = omega (arith, length_one n h)
length_le (suc k) n h =
    elim (dec_lt n 10) [
      | yes l ↦ omega (arith, length_one n l)
      | no l ↦
          let p = length_le k (n / 10) (omega (arith, pow-suc 10 (suc k))) in
          omega (arith, length_more n (omega arith))
    ]

-- a number of 32 bits has at most 10 digits
pub length_32 : (n : ℕ) → n ≤ largest → length (digits n) ≤ 10
length_32 n h = length_le 9 n (omega arith)

-- ---- the value

-- the value of a run of digits that follows the number a
abbrev pub value_from : ℕ → List ℕ → ℕ
value_from a [] = a
value_from a (b ∷ bs) = value_from (a * 10 + (b - 48)) bs

-- the value of a run of digits
abbrev pub value : List ℕ → ℕ
value bs = value_from 0 bs

-- digits after others go on from their value
value_append : (a : ℕ) (xs ys : List ℕ) → value_from a (xs ++ ys) ≡ value_from (value_from a xs) ys
value_append a [] ys = refl
value_append a (x ∷ xs) ys = value_append (a * 10 + (x - 48)) xs ys

-- further digits make no number smaller
value_grows : (a : ℕ) (bs : List ℕ) → a ≤ value_from a bs
value_grows a [] = omega arith
value_grows a (b ∷ bs) = omega (arith, value_grows (a * 10 + (b - 48)) bs)

-- the value of n's digits is n
value_digits : (n : ℕ) → value (digits n) ≡ n
value_digits =
    by_tens
    (λ n. value (digits n) ≡ n)
    (λ n h. rw (digits_one n h) (omega arith))
    (λ n h i. rw (digits_more n h, value_append 0, i) (omega arith))

-- one digit more
pub value_snoc : (v d : ℕ) → value (digits v ++ ((48 + d) ∷ [])) ≡ v * 10 + d
value_snoc v d = value_append 0 (digits v) ((48 + d) ∷ []) ∙ omega (arith, value_digits v)

-- two numbers with the same digits are the same
digits_injective : (m n : ℕ) → digits m ≡ digits n → m ≡ n
digits_injective m n e = sym (value_digits m) ∙ ap value e ∙ value_digits n

-- ---- the digits

-- every byte is a digit
abbrev pub AllDigits : List ℕ → Type 0
AllDigits [] = Unit {0}
AllDigits (b ∷ bs) = (is_digit b ≡ true) × AllDigits bs

-- a digit is a byte from 48 to 57
pub is_digit_lem : (b : ℕ) → 48 ≤ b → b ≤ 57 → is_digit b ≡ true
is_digit_lem b l h = rw (le-leb 48 b l, le-leb b 57 h)

both : (x y : Bool) → (x && y) ≡ true → (x ≡ true) × (y ≡ true)
both true y e = (refl, e)
both false y e = absurd (false≢true e)

pub digit_bounds : (b : ℕ) → is_digit b ≡ true → (48 ≤ b) × (b ≤ 57)
digit_bounds b e = let p = both (leb 48 b) (leb b 57) e in (leb-true 48 b p.0, leb-true b 57 p.1)

pub all_append : (xs ys : List ℕ) → AllDigits xs → AllDigits ys → AllDigits (xs ++ ys)
all_append [] ys p q = q
all_append (x ∷ xs) ys p q = (p.0, all_append xs ys p.1 q)

-- n's digits are digits
pub digits_all : (n : ℕ) → AllDigits (digits n)
digits_all =
    by_tens
    (λ n. AllDigits (digits n))
    (λ n h. rw (digits_one n h) (is_digit_lem (48 + n) (omega arith) (omega arith), tt))
    (λ n h i.
    rw (digits_more n h) (all_append (digits (n / 10)) _ i (is_digit_lem (48 + n % 10) (omega arith) (omega arith), tt)))

-- a text that begins with a number begins with a digit
pub begins_number : (n : ℕ) (rest : List ℕ) → begins_with_digit (digits n ++ rest) ≡ true
begins_number n rest = go (digits n) (length_pos n) (digits_all n)
  where
    go : (bs : List ℕ) → 0 < length bs → AllDigits bs → begins_with_digit (bs ++ rest) ≡ true
    go [] h a = absurd (omega arith)
    go (b ∷ bs) h a = a.0

-- only 0 begins with the byte `0`
first_zero : (n : ℕ) → get_or (digits n) 0 0 ≡ 48 → n ≡ 0
first_zero =
    by_tens
    (λ n. get_or (digits n) 0 0 ≡ 48 → n ≡ 0)
    (λ n h e. omega (arith, ap (λ l. get_or l 0 0) (digits_one n h)))
    (λ n h i e.
    let tens = i (sym (ap (λ l. get_or l 0 0) (digits_more n h) ∙ get_or-append (digits (n / 10)) _ 0 0 (length_pos (n / 10))) ∙ e) in
    omega arith)

-- no number of more than one digit does
pub no_leading_zero : (n : ℕ) → 1 < length (digits n) → get_or (digits n) 0 0 ≡ 48 → ⊥
no_leading_zero n l e = let z = first_zero n e in omega (arith, length_one n (omega arith))

-- ---- a run of digits in a text

-- a run of digits stands at the front of every run that goes on to a byte that is none
pub run_prefix : (xs ys r s : List ℕ) → AllDigits xs → begins_with_digit s ≡ false → xs ++ r ≡ ys ++ s
    → (more : List ℕ) × (ys ≡ xs ++ more)
run_prefix [] ys r s a e p = (ys, refl)
run_prefix (x ∷ xs) [] r s a e p = absurd (true≢false (sym a.0 ∙ ap begins_with_digit p ∙ e))
run_prefix (x ∷ xs) (y ∷ ys) r s a e p =
    let (more, q) = run_prefix xs ys r s a.1 e (tail-eq_of_cons-eq p) in
    (more, cc)

-- two runs of digits that each go on to a byte that is none, in one text, are the same
run_split : (xs ys r s : List ℕ) → AllDigits xs → AllDigits ys → begins_with_digit r ≡ false → begins_with_digit s ≡ false
    → xs ++ r ≡ ys ++ s → (xs ≡ ys) × (r ≡ s)
run_split [] [] r s a b d e p = (refl, p)
run_split [] (y ∷ ys) r s a b d e p = absurd (true≢false (sym b.0 ∙ sym (ap begins_with_digit p) ∙ d))
run_split (x ∷ xs) [] r s a b d e p = absurd (true≢false (sym a.0 ∙ ap begins_with_digit p ∙ e))
run_split (x ∷ xs) (y ∷ ys) r s a b d e p =
    let q = run_split xs ys r s a.1 b.1 d e (tail-eq_of_cons-eq p) in
    (cc, q.1)

-- a number and what follows it are read from a text in one way
pub digits_split : (m n : ℕ) (r s : List ℕ) → begins_with_digit r ≡ false → begins_with_digit s ≡ false
    → digits m ++ r ≡ digits n ++ s → (m ≡ n) × (r ≡ s)
digits_split m n r s d e p =
    let q = run_split (digits m) (digits n) r s (digits_all m) (digits_all n) d e p in
    (digits_injective m n q.0, q.1)

-- a number is at least the value of the digits that it begins with
pub value_prefix : (v : ℕ) (xs more : List ℕ) → digits v ≡ xs ++ more → value xs ≤ v
value_prefix v xs more e =
    let z : v ≡ value_from (value xs) more = sym (value_digits v) ∙ ap value e ∙ value_append 0 xs more in
    omega (arith, value_grows (value xs) more)
