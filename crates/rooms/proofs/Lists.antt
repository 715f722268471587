-- The laws of lists that more than one crate goes by: parts of parts, zeros, and lists with no number above a limit. Assumes nothing.
use Prim.Native.Nat.{ℕ, zero, suc, ◌+◌, ◌-◌, ◌≤◌, min}
use mathlib.Core.Path.{◌≡◌, refl, sym, ap}
use mathlib.Core.List.{List, [], ◌∷◌, ◌++◌}
use native.Mathlib.Decide.{dec_le}
use native.Mathlib.Omega.{arith}
use lib.ListN.{length, get_or, take, drop, length-take, length-append, length-replicate}
use lib.Seq.{take-take, take_all, take-nil, take_at}
use Rattle.std.proofs.lemmas.List.{take-replicate, drop-replicate}
use Rattle.rooms.specs.Lists.{UpTo, zeros, padded}

-- ---- parts of parts

-- the first m of the first n
pub take_take_min : (m n : ℕ) (l : List ℕ) → take m (take n l) ≡ take (min m n) l
take_take_min m n l = go (dec_le m n)
  where
    go : Dec (m ≤ n) → take m (take n l) ≡ take (min m n) l
    go (yes h) = let e : min m n ≡ m = omega arith in rw e (take-take m n l h)
    go (no h) =
        let e : min m n ≡ n = omega arith in
        let k : length (take n l) ≤ m = simp length-take (omega arith) in
        rw e (take_all m (take n l) k)

-- a part of the front of a list is a part of the list
pub take_drop_take : (a b n : ℕ) (l : List ℕ) → b + a ≤ n → take a (drop b (take n l)) ≡ take a (drop b l)
take_drop_take a zero n l h = take-take a n l (omega arith)
take_drop_take a (suc b) zero l h = absurd (omega arith)
take_drop_take a (suc b) (suc n) [] h = refl
take_drop_take a (suc b) (suc n) (x ∷ l) h = take_drop_take a b n l (omega arith)

-- the front of a rest is the rest of a front
pub take_drop_swap : (n m : ℕ) (l : List ℕ) → drop n (take m l) ≡ take (m - n) (drop n l)
take_drop_swap zero m l = let e : m - 0 ≡ m = omega arith in rw e
take_drop_swap (suc n) zero l = let e : 0 - suc n ≡ 0 = omega arith in rw e
take_drop_swap (suc n) (suc m) [] = sym (take-nil (suc m - suc n))
take_drop_swap (suc n) (suc m) (x ∷ l) = let e : suc m - suc n ≡ m - n = omega arith in rw e (take_drop_swap n m l)

-- ---- zeros

pub length_zeros : (n : ℕ) → length (zeros n) ≡ n
unfolding zeros
length_zeros n = length-replicate n 0

-- the first of many zeros, and the rest of them
pub take_zeros : (k n : ℕ) → k ≤ n → take k (zeros n) ≡ zeros k
unfolding zeros
take_zeros k n h = take-replicate k n 0 h

pub drop_zeros : (k n : ℕ) → drop k (zeros n) ≡ zeros (n - k)
unfolding zeros
drop_zeros k n = drop-replicate k n 0

pub zero_at : (n i : ℕ) → get_or (zeros n) i 0 ≡ 0
unfolding zeros
zero_at zero i = refl
zero_at (suc n) zero = refl
zero_at (suc n) (suc i) = zero_at n i

-- ---- a list filled up with zeros

-- it has all the numbers
pub padded_within : (size : ℕ) (numbers : List ℕ) → length numbers ≤ length (padded size numbers)
unfolding padded
padded_within size numbers = omega (arith, length-append numbers (zeros (size - length numbers)))

-- it begins with them
pub padded_front : (size count : ℕ) (numbers : List ℕ) → length numbers ≡ count → take count (padded size numbers) ≡ numbers
unfolding padded
padded_front size count numbers e = take_at numbers (zeros (size - length numbers)) count e

-- zeros of which the first are replaced
pub padded_is : (size : ℕ) (numbers : List ℕ) → padded size numbers ≡ numbers ++ drop (length numbers) (zeros size)
unfolding padded
padded_is size numbers = ap (λ rest. numbers ++ rest) (sym (drop_zeros (length numbers) size))

-- ---- no number above a limit

-- the same, number by number
abbrev pub Each : ℕ → List ℕ → Type 0
Each most [] = Unit {0}
Each most (n ∷ l) = (n ≤ most) × Each most l

pub up_to : {most : ℕ} (l : List ℕ) → Each most l → UpTo most l
up_to [] e k = omega arith
up_to (n ∷ l) e zero = e.0
up_to (n ∷ l) e (suc k) = up_to l e.1 k

pub up_to_none : (most : ℕ) → UpTo most []
up_to_none most k = omega arith

pub up_to_cons : {most : ℕ} (n : ℕ) (l : List ℕ) → n ≤ most → UpTo most l → UpTo most (n ∷ l)
up_to_cons n l h u zero = h
up_to_cons n l h u (suc k) = u k

pub up_to_take : {most : ℕ} (n : ℕ) (l : List ℕ) → UpTo most l → UpTo most (take n l)
up_to_take zero l u k = omega arith
up_to_take (suc n) [] u k = omega arith
up_to_take (suc n) (x ∷ l) u zero = u 0
up_to_take (suc n) (x ∷ l) u (suc k) = up_to_take n l (λ i. u (suc i)) k

pub up_to_drop : {most : ℕ} (n : ℕ) (l : List ℕ) → UpTo most l → UpTo most (drop n l)
up_to_drop zero l u k = u k
up_to_drop (suc n) [] u k = omega arith
up_to_drop (suc n) (x ∷ l) u k = up_to_drop n l (λ i. u (suc i)) k

pub up_to_append : {most : ℕ} (l r : List ℕ) → UpTo most l → UpTo most r → UpTo most (l ++ r)
up_to_append [] r u v k = v k
up_to_append (x ∷ l) r u v zero = u 0
up_to_append (x ∷ l) r u v (suc k) = up_to_append l r (λ i. u (suc i)) v k

pub up_to_zeros : {most : ℕ} (n : ℕ) → UpTo most (zeros n)
unfolding zeros
up_to_zeros zero k = omega arith
up_to_zeros (suc n) zero = omega arith
up_to_zeros (suc n) (suc k) = up_to_zeros n k
