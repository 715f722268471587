-- What is so of every block: its lengths, and that its check is that of its first 508 bytes. Assumes nothing.
use Prim.Native.Nat.{ℕ, zero, suc, ◌+◌, ◌-◌, ◌*◌, ◌/◌, ◌%◌, ◌≤◌}
use mathlib.Core.Path.{◌≡◌, refl, ap, ◌∙◌}
use mathlib.Core.Logic.{◌↔◌}
use mathlib.Core.Bool.{true, false, cond, false≢true}
use mathlib.Core.List.{List, ◌++◌, append_assoc, append-nil}
use native.Mathlib.Omega.{arith}
use lib.ListN.{length, take, drop, length-append, length-take, get_or-append}
use native.Mathlib.Decide.{dec_le, ℕ_discrete}
use lib.Dec.{eqb}
use borrow.Author.Tests.{eq-eqb, ne_eqb, eqb-true}
use lib.Seq.{take_all, take-append_seam}
use borrow.Rule.Slice.PartMut.{mid_of, put_mid, mid_len}
use Rattle.std.specs.Int.{to_le_bytes, w32}
use Rattle.rooms.specs.Lists.{zeros}
use Rattle.rooms.proofs.Lists.{length_zeros}
use Rattle.fileblocks.specs.FileBlock.{file_block_bytes, content_at, content_bytes, check_at, four, four_at, weighted, check_of, filled, file_block_of, sealed_with}
use Rattle.rooms.proofs.Written.{written_none, written_part, written_length, written_all}

-- the library's bytes of a number are its four bytes
pub four_is : (n : ℕ) → to_le_bytes w32 n ≡ four n
unfolding four
four_is n =
    let third : n / 65536 % 256 ≡ n / 256 / 256 % 256 = omega arith in
    let fourth : n / 16777216 % 256 ≡ n / 256 / 256 / 256 % 256 = omega arith in
    cc

pub length_four : (n : ℕ) → length (four n) ≡ 4
unfolding four
length_four n = refl

pub length_filled : (bytes : List ℕ) → length (filled bytes) ≡ content_bytes
unfolding filled
length_filled bytes = simp (length-append, length-take, length_zeros) (omega arith)

pub length_front : (k : ℕ) (bytes : List ℕ) → length (four k ++ filled bytes) ≡ check_at
length_front k bytes = simp (length-append, length_four, length_filled)

pub length_file_block_of : (k : ℕ) (bytes : List ℕ) → length (file_block_of k bytes) ≡ file_block_bytes
unfolding file_block_of
length_file_block_of k bytes = simp (length-append, length_four, length_filled)

-- bytes that fit are all there, with the filling behind them
filled_short : (bytes : List ℕ) → length bytes ≤ content_bytes → filled bytes ≡ bytes ++ zeros (content_bytes - length bytes)
unfolding filled
filled_short bytes h = ap (λ l. l ++ zeros (content_bytes - length bytes)) (take_all content_bytes bytes h)

-- and are taken out again
pub take_filled : (bytes : List ℕ) → take (length bytes) (filled bytes) ≡ take content_bytes bytes
unfolding filled zeros
take_filled bytes = go (dec_le (length bytes) content_bytes)
  where
    go : Dec (length bytes ≤ content_bytes) → take (length bytes) (filled bytes) ≡ take content_bytes bytes
    go (yes h) =
        rw (take_all content_bytes bytes h) (take-append_seam bytes (zeros (content_bytes - length bytes)))
    go (no h) =
        let none : content_bytes - length bytes ≡ 0 = omega arith in
        let short : length (take content_bytes bytes) ≤ length bytes = simp length-take (omega arith) in
        rw (none, append-nil (take content_bytes bytes)) (take_all (length bytes) (take content_bytes bytes) short)

-- bytes 508 and on do not count
weighted_front : (front rest : List ℕ) (n : ℕ) → n ≤ length front → weighted (front ++ rest) n ≡ weighted front n
unfolding weighted
weighted_front front rest zero h = refl
weighted_front front rest (suc k) h =
    let e = weighted_front front rest k (omega arith) in
    let b = ap (λ x. suc k * x) (get_or-append front rest 0 k h) in
    omega arith

pub check_front : (front rest : List ℕ) → length front ≡ check_at → check_of (front ++ rest) ≡ check_of front
unfolding check_of
check_front front rest e = ap (λ n. 1 + n) (weighted_front front rest check_at (omega arith))

-- a block that is written part by part: its number, the bytes, the filling, and the check of what then stands there
pub written_file_block : (number : ℕ) (bytes block : List ℕ) {a b c d : List ℕ} {sum : ℕ}
    → length bytes ≤ content_bytes → length block ≡ file_block_bytes → a ≡ four number → b ≡ bytes
    → c ≡ zeros (length (mid_of (content_at + length bytes) (check_at - (content_at + length bytes)) (put_mid content_at (content_at + length bytes - content_at) (put_mid 0 4 block a) b)))
    → sum ≡ check_of (put_mid (content_at + length bytes) (check_at - (content_at + length bytes)) (put_mid content_at (content_at + length bytes - content_at) (put_mid 0 4 block a) b) c)
    → d ≡ four sum
    → put_mid check_at 4 (put_mid (content_at + length bytes) (check_at - (content_at + length bytes)) (put_mid content_at (content_at + length bytes - content_at) (put_mid 0 4 block a) b) c) d ≡ file_block_of number bytes
unfolding file_block_of
written_file_block number bytes block {a} {b} {c} {d} {sum} short whole ea eb ec es ed =
    let end = content_at + length bytes in
    let la : length a ≡ 4 = ap length ea ∙ length_four number in
    let lb : length b ≡ end - content_at = ap length eb ∙ omega arith in
    let w₁ = written_part (written_none block 0 (omega arith)) content_at a (omega arith) (omega arith) la in
    let w₂ = written_part w₁ end b (omega arith) (omega arith) lb in
    let l₂ = written_length w₂ in
    let gap : end + (content_bytes - length bytes) ≡ check_at = omega arith in
    let room : length (mid_of end (check_at - end) (put_mid content_at (end - content_at) (put_mid 0 4 block a) b)) ≡ content_bytes - length bytes = mid_len end check_at _ (omega arith) ∙ omega arith in
    let ec' : c ≡ zeros (content_bytes - length bytes) = ec ∙ ap zeros room in
    let lc : length c ≡ check_at - end = ap length ec' ∙ length_zeros (content_bytes - length bytes) ∙ omega arith in
    let w₃ = written_part w₂ check_at c (omega arith) (omega arith) lc in
    let front : (a ++ b) ++ c ≡ four number ++ filled bytes =
    append_assoc a b c ∙ cc (filled_short bytes short) in
    let ld : length d ≡ 4 = ap length ed ∙ length_four sum in
    let w₄ = written_part w₃ file_block_bytes d (omega arith) (omega arith) ld in
    let check : sum ≡ check_of (four number ++ filled bytes) =
    es ∙ ap check_of w₃.kept ∙ check_front ((a ++ b) ++ c) (drop check_at block) (omega (arith, w₃.ends)) ∙ ap check_of front in
    written_all w₄ (omega arith) ∙ cc

-- both the number and the check are right
pub sealed_right : (k : ℕ) (block : List ℕ) → (sealed_with k block ≡ true) ↔ ((four_at block 0 ≡ k) × (four_at block check_at ≡ check_of block))
unfolding sealed_with
sealed_right k block = go (four_at block check_at) (check_of block) (ℕ_discrete (four_at block 0) k)
  where
    go : (c d : ℕ) → Dec (four_at block 0 ≡ k) → (cond (eqb (four_at block 0) k) (eqb c d) false ≡ true) ↔ ((four_at block 0 ≡ k) × (c ≡ d))
    go c d (yes e) = rw (eq-eqb _ _ e) (λ h. (e, eqb-true c d h), λ h. eq-eqb c d h.1)
    go c d (no n) = rw (ne_eqb _ _ n) (λ h. absurd (false≢true h), λ h. absurd (n h.0))
