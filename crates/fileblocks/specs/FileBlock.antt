-- Document 01, "Saved map: blocks of 512 bytes, little-endian": one block of the file.
use Rattle.std.specs.Prelude.{ℕ, zero, suc, ◌+◌, ◌-◌, ◌*◌, ◌/◌, ◌%◌, Bool, true, false, not, cond, List, [], ◌∷◌, ◌++◌, eqb, length, get_or, take, drop}
use Rattle.rooms.specs.Lists.{UpTo, zeros}
use Rattle.scope.specs.Refusal.{Tests, ◌when◌, ◌and_then◌}
use Rattle.scope.specs.declared.Reason.TheVariants.{Check, Layout}

-- "blocks of 512 bytes".
abbrev pub file_block_bytes : ℕ
file_block_bytes = 512

-- "in bytes 4-507": where the contents begin.
abbrev pub content_at : ℕ
content_at = 4

-- And how many bytes they have.
abbrev pub content_bytes : ℕ
content_bytes = 504

-- "Bytes 508-511: check": where the check begins.
abbrev pub check_at : ℕ
check_at = 508

-- "one byte": every number of the list is one.
abbrev pub Bytes : List ℕ → Type 0
Bytes numbers = UpTo 255 numbers

-- "little-endian": a 32-bit number as four bytes, the lowest first.
unfoldable pub four : ℕ → List ℕ
four n = n % 256 ∷ n / 256 % 256 ∷ n / 256 / 256 % 256 ∷ n / 256 / 256 / 256 % 256 ∷ []

-- The number that four bytes stand for, from byte k on.
unfoldable pub four_at : List ℕ → ℕ → ℕ
four_at bytes k = get_or bytes k 0 + 256 * (get_or bytes (k + 1) 0 + 256 * (get_or bytes (k + 2) 0 + 256 * get_or bytes (k + 3) 0))

-- "sum of (k+1)·byte k", over the first n bytes.
unfoldable pub weighted : List ℕ → ℕ → ℕ
weighted bytes zero = 0
weighted bytes (suc k) = weighted bytes k + suc k * get_or bytes k 0

-- "check = 1 + sum of (k+1)·byte k for k = 0..507".
unfoldable pub check_of : List ℕ → ℕ
check_of bytes = 1 + weighted bytes check_at

-- "in bytes 4-507 .. filled up with zeros": the first 504 of some bytes, or all of them and zeros.
unfoldable pub filled : List ℕ → List ℕ
filled bytes = take content_bytes bytes ++ zeros (content_bytes - length bytes)

-- "Bytes 0-3: block number .. Bytes 508-511: check": the block with number k that holds these bytes.
unfoldable pub file_block_of : ℕ → List ℕ → List ℕ
file_block_of k bytes = let front = four k ++ filled bytes in front ++ four (check_of front)

-- "Bytes 4-507" of a block.
unfoldable pub contents : List ℕ → List ℕ
contents block = take content_bytes (drop content_at block)

-- Every one of some bytes is zero.
unfoldable pub all_zero : List ℕ → Bool
all_zero [] = true
all_zero (byte ∷ bytes) = cond (eqb byte 0) (all_zero bytes) false

-- "Bytes 0-3: block number", "Bytes 508-511: check": both are right, of block k.
unfoldable pub sealed_with : ℕ → List ℕ → Bool
sealed_with k block = cond (eqb (four_at block 0) k) (eqb (four_at block check_at) (check_of block)) false

-- "14: wrong block number or check", "15: .. filling not as laid down", of block k if it is to hold so many bytes before the filling.
unfoldable pub file_block_tests : ℕ → ℕ → List ℕ → Tests
file_block_tests k size block =
    Check when not (sealed_with k block) and_then
    Layout when not (all_zero (drop size (contents block)))
