-- Bytes that are all zero, looked at from one of them on. Assumes nothing.
use Prim.Native.Nat.{ℕ, zero, suc, ◌-◌, ◌≤◌, ◌<◌, min}
use mathlib.Core.Path.{◌≡◌, refl, sym}
use mathlib.Core.Logic.{◌≢◌}
use Rattle.std.specs.Bool.{MatchBool}
use Rattle.std.specs.List.{AllWithin, HoldsAt}
use mathlib.Core.Bool.{Bool, true, false, cond}
use mathlib.Core.List.{List, [], ◌∷◌, ◌++◌}
use native.Mathlib.Decide.{dec_le}
use native.Mathlib.Omega.{arith}
use borrow.Author.Tests.{ne_eqb, eqb-true}
use lib.Dec.{eqb}
use lib.ListN.{length, get_or, take, drop, length-drop, drop_of_length-le}
use lib.Seq.{take_all}
use Rattle.rooms.specs.Lists.{zeros}
use Rattle.fileblocks.specs.FileBlock.{all_zero}

-- the bytes from `from` on, if there are so many, and else none
pub rest_from : (from : ℕ) (l : List ℕ) → take (length l - min from (length l)) (drop (min from (length l)) l) ≡ drop from l
rest_from from l = go (dec_le from (length l))
  where
    go : Dec (from ≤ length l) → take (length l - min from (length l)) (drop (min from (length l)) l) ≡ drop from l
    go (yes h) =
        let e : min from (length l) ≡ from = omega arith in
        rw e (take_all (length l - from) (drop from l) (simp length-drop (omega arith)))
    go (no h) =
        let e : min from (length l) ≡ length l = omega arith in
        let none : length l - length l ≡ 0 = omega arith in
        rw (e, none) (sym (drop_of_length-le l {i = from} (omega arith)))

-- all of them are zero, or some byte is not
all_zero_all : (l : List ℕ) → ((k : ℕ) → k < length l → get_or l k 0 ≡ 0) → all_zero l ≡ true
unfolding all_zero
all_zero_all [] h = refl
all_zero_all (x ∷ l) h = rw (h 0 (omega arith)) (all_zero_all l (λ k b. h (suc k) (omega arith)))

all_zero_not : (l : List ℕ) (k : ℕ) → k < length l → get_or l k 0 ≢ 0 → all_zero l ≡ false
unfolding all_zero
all_zero_not [] k h n = absurd (omega arith)
all_zero_not (x ∷ l) zero h n = rw (ne_eqb x 0 n)
all_zero_not (x ∷ l) (suc k) h n = rw (all_zero_not l k (omega arith) n) (go (eqb x 0))
  where
    go : (t : Bool) → cond t false false ≡ false
    go true = refl
    go false = refl

-- what comes behind some bytes and is filled up with zeros
pub all_zero_behind : (n : ℕ) (l : List ℕ) (z : ℕ) → length l ≤ n → all_zero (drop n (l ++ zeros z)) ≡ true
unfolding all_zero zeros
all_zero_behind zero [] zero h = refl
all_zero_behind zero [] (suc z) h = all_zero_behind zero [] z h
all_zero_behind (suc n) [] zero h = refl
all_zero_behind (suc n) [] (suc z) h = all_zero_behind n [] z (omega arith)
all_zero_behind zero (x ∷ l) z h = absurd (omega arith)
all_zero_behind (suc n) (x ∷ l) z h = all_zero_behind n l z (omega arith)

pub all_zero_zeros : (l : List ℕ) → all_zero l ≡ true → l ≡ zeros (length l)
unfolding all_zero zeros
all_zero_zeros [] e = refl
all_zero_zeros (x ∷ l) e = go (eqb x 0) refl e (all_zero_zeros l)
  where
    go : (t : Bool) → eqb x 0 ≡ t → cond t (all_zero l) false ≡ true → (all_zero l ≡ true → l ≡ zeros (length l)) → x ∷ l ≡ zeros (length (x ∷ l))
    go true i e ih = let z = eqb-true x 0 i in let r = ih e in λ j. z j ∷ r j
    go false i e ih = absurd (let z : ◌≡◌ {A = ℕ} 0 1 = cc in omega arith)

-- a search for a byte that is not zero says whether there is one
pub all_zero_found : (found : Bool) (l : List ℕ) → MatchBool found (AllWithin (λ byte. byte ≡ 0) l 0 (length l)) ((k : ℕ) × (k < length l) × HoldsAt (λ byte. byte ≢ 0) l k) → found ≡ all_zero l
unfolding all_zero
all_zero_found true l every = sym (all_zero_all l (λ k h. every k 0 (omega arith) h))
all_zero_found false l some = sym (all_zero_not l some.0 some.1 (some.2 0))
