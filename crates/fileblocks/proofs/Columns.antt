-- The check in two columns, as a spreadsheet has them: the running totals of the bytes from the last to the first, and the sum of the
-- totals. `columns` says that the sum is 01's "sum of (k+1)·byte k", for any number of bytes. Assumes nothing.
use Prim.Native.Nat.{ℕ, zero, suc, ◌+◌, ◌*◌, ◌≤◌, ◌<◌}
use mathlib.Core.Path.{◌≡◌, refl, sym, ap, ◌∙◌}
use mathlib.Core.List.{List, [], ◌∷◌, ◌++◌, append_assoc, append-nil}
use native.Mathlib.Nat.{suc-mul}
use native.Mathlib.Omega.{arith}
use lib.ListN.{length, get_or, take, drop, length-append, length-take, take-append-drop}
use lib.Seq.{take-length, length-take-le}
use Rattle.fileblocks.specs.FileBlock.{check_at, weighted, check_of}
use Rattle.fileblocks.proofs.FileBlock.{check_front}

-- the total of some numbers, added from the last to the first
unfoldable pub total : List ℕ → ℕ
total [] = 0
total (byte ∷ bytes) = total bytes + byte

-- the running totals, from the last byte to the first: beside each byte the total of it and of all behind it, so that the sheet's last
-- row, that of the first byte, stands in front
unfoldable pub totals : List ℕ → List ℕ
totals [] = []
totals (byte ∷ bytes) = total (byte ∷ bytes) ∷ totals bytes

-- one more of the first bytes
total_suc : (bytes : List ℕ) (n : ℕ) → total (take (suc n) bytes) ≡ total (take n bytes) + get_or bytes n 0
unfolding total
total_suc [] zero = refl
total_suc [] (suc n) = refl
total_suc (byte ∷ bytes) zero = refl
total_suc (byte ∷ bytes) (suc n) = let e = total_suc bytes n in omega arith

-- a byte in front moves each byte behind it to the next weight: the total comes to the sum once more
weighted_cons : (byte : ℕ) (bytes : List ℕ) (n : ℕ) → weighted (byte ∷ bytes) (suc n) ≡ weighted bytes n + total (take (suc n) (byte ∷ bytes))
unfolding weighted total
weighted_cons byte bytes zero = omega arith
weighted_cons byte bytes (suc n) =
    let e = weighted_cons byte bytes n in
    let t = total_suc (byte ∷ bytes) (suc n) in
    let once_more = suc-mul (suc n) (get_or bytes n 0) in
    omega arith

-- the sum of the running totals, from the last byte to the first, is the sum of (k+1)·byte k
pub columns : (bytes : List ℕ) → total (totals bytes) ≡ weighted bytes (length bytes)
unfolding total totals weighted
columns [] = refl
columns (byte ∷ bytes) =
    let e = columns bytes in
    let w = weighted_cons byte bytes (length bytes) in
    let all = ap total (take-length (byte ∷ bytes)) in
    omega arith

-- so the check is the sum of the running totals of bytes 507 to 0, and 1
pub check_columns : (block : List ℕ) → check_at ≤ length block → total (totals (take check_at block)) + 1 ≡ check_of block
unfolding check_of
check_columns block h =
    let long : length (take check_at block) ≡ check_at = length-take-le check_at block h in
    let sums = columns (take check_at block) ∙ ap (weighted (take check_at block)) long in
    let front = sym (ap check_of (sym (take-append-drop check_at block)) ∙ check_front (take check_at block) (drop check_at block) long) in
    omega arith

-- after some rows, of which row 1 has byte 507: `left` are the bytes of the rows to come, `done` those of the rows so far; `above`, the total
-- above the next row, is the total of `done`, and `sum` is the sum of its totals; no total is above 508·255, which is 129540
pub record Rows (block left : List ℕ) (above sum : ℕ) : Type 0 where
  pub done : List ℕ
  pub whole : left ++ done ≡ take check_at block
  pub few : length done ≤ check_at
  pub above_is : above ≡ total done
  pub sum_is : sum ≡ total (totals done)
  pub above_small : above ≤ 255 * length done
  pub sum_small : sum ≤ 129540 * length done

pub rows_none : (block : List ℕ) → Rows block (take check_at block) 0 0
unfolding total totals
rows_none block =
    record { done = []; whole = append-nil (take check_at block); few = omega arith; above_is = refl; sum_is = refl; above_small = omega arith; sum_small = omega arith }

-- the next row has the last of the bytes that are left
pub rows_more : {block left rest : List ℕ} {above sum byte : ℕ} → Rows block left above sum → left ≡ rest ++ byte ∷ [] → byte < 256
    → Rows block rest (above + byte) (sum + (above + byte))
unfolding total totals
rows_more {block} {left} {rest} {above} {sum} {byte} r last small =
    let split : rest ++ byte ∷ r.done ≡ take check_at block = sym (append_assoc rest (byte ∷ []) r.done) ∙ ap (λ l. l ++ r.done) (sym last) ∙ r.whole in
    let few : length (byte ∷ r.done) ≤ check_at = omega (arith, ap length split, length-append rest (byte ∷ r.done), length-take check_at block) in
    record {
      done = byte ∷ r.done;
      whole = split;
      few = few;
      above_is = omega (arith, r.above_is);
      sum_is = omega (arith, r.sum_is, r.above_is);
      above_small = omega arith;
      sum_small = omega arith;
    }

-- no byte is left
pub rows_all : {block left : List ℕ} {above sum : ℕ} → Rows block left above sum → length left ≡ 0 → check_at ≤ length block → sum + 1 ≡ check_of block
rows_all {block} {left = []} r none long = ap (λ n. n + 1) (r.sum_is ∙ ap (λ l. total (totals l)) r.whole) ∙ check_columns block long
rows_all {block} {left = byte ∷ left} r none long = absurd (omega arith)
