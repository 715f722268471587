-- A block passes its tests exactly if it is the block that is laid down. Assumes nothing.
use Prim.Native.Nat.{ℕ, ◌+◌, ◌-◌, ◌*◌, ◌/◌, ◌%◌, ◌≤◌, ◌<◌}
use mathlib.Core.Path.{◌≡◌, sym, ap, ◌∙◌}
use mathlib.Core.Bool.{true, not}
use mathlib.Core.List.{List, [], ◌∷◌, ◌++◌, append_assoc, append-nil}
use native.Mathlib.Nat.{add-zero, le_of_eq}
use native.Mathlib.Omega.{arith}
use lib.ListN.{length, get_or, take, drop, length-take, length-drop, take-append-drop}
use lib.Seq.{get_or-take, get_or-drop, take_all, take-add, drop_at, take_at}
use Rattle.fileblocks.specs.FileBlock.{file_block_bytes, content_bytes, check_at, Bytes, four, four_at, check_of, filled, file_block_of, contents, all_zero, file_block_tests}
use borrow.Author.Tests.{not-false}
use Rattle.rooms.proofs.Lists.{up_to_take, up_to_drop, up_to_append}
use Rattle.scope.proofs.Judged.{Passes, sound, both}
use Rattle.scope.proofs.Limits.{passes_first, passes_then, passes_when}
use Rattle.fileblocks.proofs.Filling.{all_zero_behind, all_zero_zeros}
use Rattle.saved.proofs.Bytes.{bytes_four, bytes_filled, check_small}
use Rattle.fileblocks.proofs.FileBlock.{length_four, length_filled, length_front, check_front, sealed_right}

-- a number that was written is read
four_read : (n : ℕ) (rest : List ℕ) → n < 4294967296 → four_at (four n ++ rest) 0 ≡ n
unfolding four four_at
four_read n rest h = omega arith

-- bytes that are read as a number are that number, written
low : {a : ℕ} (m : ℕ) → a ≤ 255 → (a + 256 * m) % 256 ≡ a
low m h = omega arith

high : {a : ℕ} (m : ℕ) → a ≤ 255 → (a + 256 * m) / 256 ≡ m
high m h = omega arith

four_of : {a b c d : ℕ} → a ≤ 255 → b ≤ 255 → c ≤ 255 → d ≤ 255 → four (a + 256 * (b + 256 * (c + 256 * d))) ≡ a ∷ b ∷ c ∷ d ∷ []
unfolding four
four_of {a} {b} {c} {d} ha hb hc hd =
    let e₃ : d % 256 ≡ d = omega arith in
    rw (low (b + 256 * (c + 256 * d)) ha, high (b + 256 * (c + 256 * d)) ha, low (c + 256 * d) hb, high (c + 256 * d) hb, low d hc, high d hc, e₃)

four_there : (l : List ℕ) → length l ≡ 4 → Bytes l → four (four_at l 0) ≡ l
unfolding four_at
four_there (a ∷ b ∷ c ∷ d ∷ []) e h = four_of (h 0) (h 1) (h 2) (h 3)
four_there [] e h = absurd (omega arith)
four_there (a ∷ []) e h = absurd (omega arith)
four_there (a ∷ b ∷ []) e h = absurd (omega arith)
four_there (a ∷ b ∷ c ∷ []) e h = absurd (omega arith)
four_there (a ∷ b ∷ c ∷ d ∷ x ∷ l) e h = absurd (omega arith)

-- a number is read from byte k on as from byte 0 of the rest, or of any part of it that has four bytes
byte_at : (l : List ℕ) (k n i : ℕ) → i < n → get_or (take n (drop k l)) i 0 ≡ get_or l (k + i) 0
byte_at l k n i h = get_or-take n (drop k l) i 0 h ∙ get_or-drop k l i 0

four_drop : (l : List ℕ) (k n : ℕ) → 4 ≤ n → four_at (take n (drop k l)) 0 ≡ four_at l k
unfolding four_at
four_drop l k n h = rw (byte_at l k n 0 (omega arith), byte_at l k n 1 (omega arith), byte_at l k n 2 (omega arith), byte_at l k n 3 (omega arith), add-zero k)

pub four_back : (l : List ℕ) (k : ℕ) → Bytes l → k + 4 ≤ length l → take 4 (drop k l) ≡ four (four_at l k)
four_back l k b h = sym (ap four (sym (four_drop l k 4 (omega arith))) ∙ four_there (take 4 (drop k l)) (simp (length-take, length-drop) (omega arith)) (up_to_take 4 (drop k l) (up_to_drop k l b)))

-- the parts of a block that is laid down
module _ (k : ℕ) (bytes : List ℕ) where
  pub file_block_contents : contents (file_block_of k bytes) ≡ filled bytes
  unfolding contents file_block_of
  file_block_contents =
      ap (λ l. take content_bytes (drop 4 l)) (append_assoc (four k) (filled bytes) (four (check_of (four k ++ filled bytes))))
      ∙ ap (take content_bytes) (drop_at (four k) (filled bytes ++ four (check_of (four k ++ filled bytes))) 4 (length_four k))
      ∙ take_at (filled bytes) (four (check_of (four k ++ filled bytes))) content_bytes (length_filled bytes)

  file_block_number : k < 4294967296 → four_at (file_block_of k bytes) 0 ≡ k
  unfolding file_block_of
  file_block_number h =
      ap (λ l. four_at l 0) (append_assoc (four k) (filled bytes) (four (check_of (four k ++ filled bytes))))
      ∙ four_read k (filled bytes ++ four (check_of (four k ++ filled bytes))) h

  file_block_check : Bytes bytes → four_at (file_block_of k bytes) check_at ≡ check_of (file_block_of k bytes)
  unfolding file_block_of
  file_block_check b =
      let front = four k ++ filled bytes in
      let check = check_of front in
      let small = check_small front (up_to_append (four k) (filled bytes) (bytes_four k) (bytes_filled bytes b)) in
      sym (four_drop (front ++ four check) check_at 4 (omega arith))
      ∙ ap (λ l. four_at (take 4 l) 0) (drop_at front (four check) check_at (length_front k bytes))
      ∙ ap (λ l. four_at l 0) (take_all 4 (four check) (le_of_eq (length_four check)) ∙ sym (append-nil (four check)))
      ∙ four_read check [] small
      ∙ sym (check_front front (four check) (length_front k bytes))

  file_block_filling : (size : ℕ) → length bytes ≤ size → all_zero (drop size (filled bytes)) ≡ true
  unfolding filled
  file_block_filling size l = all_zero_behind size (take content_bytes bytes) (content_bytes - length bytes) (simp length-take (omega arith))

  pub file_block_passes : (size : ℕ) → k < 4294967296 → Bytes bytes → length bytes ≤ size → Passes (file_block_tests k size (file_block_of k bytes))
  unfolding file_block_tests
  file_block_passes size h b l =
      both
      (sound (ap not ((sealed_right k (file_block_of k bytes)).1 (file_block_number h, file_block_check b))))
      (sound (ap (λ x. not (all_zero (drop size x))) file_block_contents ∙ ap not (file_block_filling size l)))

-- bytes whose rest is zero are their front, filled up
filled_front : (l : List ℕ) (size : ℕ) → length l ≡ content_bytes → all_zero (drop size l) ≡ true → l ≡ filled (take size l)
unfolding filled
filled_front l size e z =
    let short : length (take size l) ≤ content_bytes = simp length-take (omega arith) in
    let rest : length (drop size l) ≡ content_bytes - length (take size l) = simp (length-drop, length-take) (omega arith) in
    sym (take-append-drop size l) ∙ rw (take_all content_bytes (take size l) short, ← rest, ← all_zero_zeros (drop size l) z)

-- a block that passes is the block that is laid down
pub file_block_is : (k size : ℕ) (block : List ℕ) → length block ≡ file_block_bytes → Bytes block → Passes (file_block_tests k size block) → block ≡ file_block_of k (take size (contents block))
unfolding file_block_tests file_block_of contents
file_block_is k size block l b p =
    let (number, check) = (sealed_right k block).0 (not-false _ (passes_when (passes_first p))) in
    let inner : length (take content_bytes (drop 4 block)) ≡ content_bytes = simp (length-take, length-drop) (omega arith) in
    let held = filled_front (contents block) size inner (not-false _ (passes_when (passes_then p))) in
    let front : take check_at block ≡ four k ++ filled (take size (contents block)) =
    take-add 4 content_bytes block ∙ ap (λ l. l ++ contents block) (four_back block 0 b (omega arith) ∙ ap four number) ∙ ap (λ l. four k ++ l) held in
    let sum : check_of block ≡ check_of (four k ++ filled (take size (contents block))) =
    ap check_of (sym (take-append-drop check_at block)) ∙ check_front (take check_at block) (drop check_at block) (simp length-take (omega arith)) ∙ ap check_of front in
    let behind : drop check_at block ≡ four (check_of (four k ++ filled (take size (contents block)))) =
    sym (take_all 4 (drop check_at block) (simp length-drop (omega arith))) ∙ four_back block check_at b (omega arith) ∙ ap four (check ∙ sum) in
    sym (take-append-drop check_at block) ∙ ap (λ l. l ++ drop check_at block) front ∙ ap (λ l. four k ++ filled (take size (contents block)) ++ l) behind
