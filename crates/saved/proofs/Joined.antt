-- Lists of one length, joined, and taken apart again. Assumes nothing.
use Prim.Native.Nat.{ℕ, zero, suc, ◌*◌, ◌≤◌, ◌<◌}
use mathlib.Core.Path.{◌≡◌}
use mathlib.Core.List.{List, ◌++◌}
use native.Mathlib.Decide.{dec_le}
use native.Mathlib.Nat.{mul-le-mul_left, mul-suc}
use native.Mathlib.Omega.{arith}
use lib.ListN.{length, take, drop, length-append, length-drop}
use lib.Seq.{take_all, drop_at, drop-append-le, take-append-le, take-add}
use Rattle.saved.specs.File.{first_joined}

-- each of the first n is so long
pub record Even (lists : ℕ → List ℕ) (size n : ℕ) : Type 0 where
  pub each : (k : ℕ) → k < n → length (lists k) ≡ size

fewer : {lists : ℕ → List ℕ} {size n : ℕ} → Even lists size (suc n) → Even lists size n
fewer e = record { each = λ k h. e.each k (omega arith) }

length_joined : {lists : ℕ → List ℕ} {size : ℕ} (n : ℕ) → Even lists size n → length (first_joined lists n) ≡ size * n
unfolding first_joined
length_joined {size} zero e = omega arith
length_joined {lists} {size} (suc n) e =
    let l = length_joined n (fewer e) in
    let k = e.each n (omega arith) in
    simp length-append (omega arith)

-- the k-th of them, taken out again
pub first_joined_at : {lists : ℕ → List ℕ} {size : ℕ} (n k : ℕ) → Even lists size n → k < n → take size (drop (size * k) (first_joined lists n)) ≡ lists k
unfolding first_joined
first_joined_at zero k e h = absurd (omega arith)
first_joined_at {lists} {size} (suc n) k e h = go (dec_le (suc k) n) (first_joined_at n k (fewer e))
  where
    go : Dec (k < n) → (k < n → take size (drop (size * k) (first_joined lists n)) ≡ lists k) → take size (drop (size * k) (first_joined lists n ++ lists n)) ≡ lists k
    go (yes l) ih =
        let whole = length_joined n (fewer e) in
        let m : size * suc k ≤ size * n = mul-le-mul_left size l in
        let here : size * k ≤ length (first_joined lists n) = omega arith in
        let there : size ≤ length (drop (size * k) (first_joined lists n)) = simp length-drop (omega arith) in
        rw (drop-append-le (size * k) (first_joined lists n) (lists n) here, take-append-le size (drop (size * k) (first_joined lists n)) (lists n) there) (ih l)
    go (no l) ih =
        let last : k ≡ n = omega arith in
        rw (last, drop_at (first_joined lists n) (lists n) (size * n) (length_joined n (fewer e))) (let s = e.each n (omega arith) in take_all size (lists n) (omega arith))

-- a list that holds them one after the other is they, joined
pub first_joined_is : {lists : ℕ → List ℕ} (size : ℕ) (l : List ℕ) (n : ℕ) → ((k : ℕ) → k < n → take size (drop (size * k) l) ≡ lists k) → take (size * n) l ≡ first_joined lists n
unfolding first_joined
first_joined_is size l zero h = let z : size * 0 ≡ 0 = omega arith in rw z
first_joined_is {lists} size l (suc n) h =
    rw (mul-suc size n, take-add (size * n) size l, first_joined_is size l n (λ k b. h k (omega arith)), h n (omega arith))
