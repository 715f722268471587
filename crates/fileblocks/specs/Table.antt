-- Document 01, "The refusal numbers": the rows of one block of a saved file, as propositions.
use Rattle.std.specs.Prelude.{ℕ, ◌+◌, ◌≤◌, ◌<◌, ◌⊎◌, ◌≢◌, List, [], ◌∷◌, get_or}
use Rattle.scope.specs.Table.{Row, ◌given◌}
use Rattle.fileblocks.specs.FileBlock.{content_at, check_at, four_at, check_of}

-- Some byte from one up to another is not zero.
pub record NotZero (bytes : List ℕ) (from to : ℕ) : Type 0 where
  pub at : ℕ
  pub low : from ≤ at
  pub high : at < to
  pub nonzero : get_or bytes at 0 ≢ 0

-- "14: wrong block number or check", of the block with number k.
abbrev pub BadCheck : ℕ → List ℕ → Type 0
BadCheck k block = (four_at block 0 ≢ k) ⊎ (four_at block check_at ≢ check_of block)

-- "14 before 15", of block k if it is to hold so many bytes: the rest of "bytes 4-507" is filling.
abbrev pub file_block_table : ℕ → ℕ → List ℕ → List Row
file_block_table k size block =
    14 given BadCheck k block ∷
    15 given NotZero block (content_at + size) check_at ∷ []
