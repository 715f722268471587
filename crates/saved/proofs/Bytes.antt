-- Lists of bytes, of which no one is above 255. Assumes nothing.
use Prim.Native.Nat.{ℕ, zero, suc, ◌-◌, ◌*◌, ◌≤◌, ◌<◌}
use mathlib.Core.List.{List}
use native.Mathlib.Nat.{mul-le-mul}
use native.Mathlib.Omega.{arith}
use lib.ListN.{length, get_or, take, drop}
use Rattle.rooms.proofs.Lists.{up_to_take, up_to_drop, up_to_append, up_to_zeros}
use Rattle.fileblocks.specs.FileBlock.{file_block_bytes, content_bytes, check_at, Bytes, four, filled, weighted, check_of}
use Rattle.saved.specs.File.{file_block_at}

pub bytes_four : (n : ℕ) → Bytes (four n)
unfolding four
bytes_four n zero = omega arith
bytes_four n (suc zero) = omega arith
bytes_four n (suc (suc zero)) = omega arith
bytes_four n (suc (suc (suc zero))) = omega arith
bytes_four n (suc (suc (suc (suc i)))) = omega arith

pub bytes_filled : (l : List ℕ) → Bytes l → Bytes (filled l)
unfolding filled
bytes_filled l b = up_to_append (take content_bytes l) _ (up_to_take content_bytes l b) (up_to_zeros (content_bytes - length l))

pub bytes_file_block_at : (file : List ℕ) (k : ℕ) → Bytes file → Bytes (file_block_at file k)
unfolding file_block_at
bytes_file_block_at file k b = up_to_take file_block_bytes (drop (file_block_bytes * k) file) (up_to_drop (file_block_bytes * k) file b)

-- the check of bytes fits its four bytes
weighted_small : (l : List ℕ) → Bytes l → (n : ℕ) → n ≤ check_at → weighted l n ≤ 129540 * n
unfolding weighted
weighted_small l b zero h = omega arith
weighted_small l b (suc k) h =
    let e = weighted_small l b k (omega arith) in
    let term : suc k * get_or l k 0 ≤ 129540 = mul-le-mul h (b k) in
    omega arith

pub check_small : (l : List ℕ) → Bytes l → check_of l < 4294967296
unfolding check_of
check_small l b = let e = weighted_small l b check_at (omega arith) in omega arith
