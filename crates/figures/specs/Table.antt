-- Document 01, "Bench figures": the starred ones, and the refusal that stands beside one of them, as they stand there, each source
-- at phase 0 ("a line without it means phase 0", E5); and what it is for a figure to hold.
use Rattle.scope.specs.declared.Refusal.{Refusal}
use Rattle.std.specs.Prelude.{ℕ, ◌+◌, ◌%◌, ◌≤◌, ◌≡◌, List, [], ◌∷◌, map, ◌↔◌, length, Result, Ok, None}
use lib.IntN.{ℤ, pos}
use Rattle.scope.specs.declared.Run.{Run}
use Rattle.scope.specs.Run.{run_with, cell_of}
use Rattle.scope.specs.declared.Place.TheVariants.{Nowhere}
use Rattle.scope.specs.Reply.{Said, refused, answered}
use Rattle.vectors.specs.declared.Steps.{Steps}
use Rattle.vectors.specs.Vectors.{Values, pair, single}
use Rattle.vectors.specs.Promise.{says_vectors, VectorsPromise}
use Rattle.map.specs.Promise.{MakingPromise}
use Rattle.fileblocks.specs.FileBlock.{file_block_bytes, check_at, four_at}
use Rattle.saved.specs.Promise.{SavingPromise}
use Rattle.hits.specs.declared.Listing.{Listing}
use Rattle.hits.specs.Promise.{ListingPromise}

-- A row of the table.
pub data Figure : Type 0 where
  -- "p, r, I: reply"
  vectors : (p r I : ℕ) → Said Values → Figure
  -- "p, r, I .. Hits on lines 1-11 as offset, line": of a period, a remainder, a window, and the first and last line, at phase 0
  hits : (p r I first last : ℕ) → List (ℤ × ℕ) → Figure
  -- "The map above": of a run, the periods, weights and phases listed, and the cells of the map that the plain call makes (E6)
  mapped : Run → (periods weights phases cells : List ℕ) → Figure
  -- "saved, it is 1,024 bytes with checks 294 and 22,327": of a run and its map, the length and the checks of the two blocks
  saved : Run → (cells : List ℕ) → (size first second : ℕ) → Figure

-- A figure holds if the promise at the row's inputs admits an outcome exactly if it is the row's figure; of the saved map: done
-- exactly if the room has the row's length, and then with these checks, and some outcome is admitted. The hits are those of
-- every interval T with T mod p = r, the map is that of every lent one with as many cells.
abbrev pub Holds : Figure → Type 0
Holds (vectors p r I figure) = (steps : Steps) → VectorsPromise p r I steps ↔ (says_vectors steps ≡ figure)
Holds (hits p r I first last figure) =
    (T : ℕ) → 1 ≤ T → T % p ≡ r → (room : List ℕ) → length room ≡ length figure → (reply : Result Listing Refusal) (after : List ℕ) →
    ListingPromise (run_with I T first last) (record { period = p; phase = 0 }) (record { 0 = 0 }) room reply after ↔
    ((reply ≡ Ok (record { count = length figure; next = None })) × (map pos after ≡ map (λ hit. cell_of (run_with I T first last) hit.0 hit.1) figure))
Holds (mapped run periods weights phases figure) =
    (map : List ℕ) → length map ≡ length figure → (answer : Result (Unit {0}) Refusal) (after : List ℕ) →
    MakingPromise run periods weights phases map answer after ↔ ((answer ≡ Ok tt) × (after ≡ figure))
Holds (saved run cells size first second) =
    (room : List ℕ) →
    ((answer : Result (Unit {0}) Refusal) (after : List ℕ) → SavingPromise run cells room answer after →
    ((answer ≡ Ok tt) ↔ (length room ≡ size)) ×
    (answer ≡ Ok tt → (length after ≡ size) × (four_at after check_at ≡ first) × (four_at after (file_block_bytes + check_at) ≡ second))) ×
    ((answer : Result (Unit {0}) Refusal) × (after : List ℕ) × SavingPromise run cells room answer after)

-- An offset below 0, as in -3.
abbrev pub minus : ℕ → ℤ
minus n = lib.IntN.neg_ℤ (pos n)

-- "(-3,2) (1,3) (-2,5) (2,6) (-1,8) (0,11)".
abbrev pub hits_1_11 : List (ℤ × ℕ)
hits_1_11 = (minus 3, 2) ∷ (pos 1, 3) ∷ (minus 2, 5) ∷ (pos 2, 6) ∷ (minus 1, 8) ∷ (pos 0, 11) ∷ []

-- "run 4 10 1 5".
abbrev pub example : Run
example = run_with 4 10 1 5

-- "map 0 200, map 3 200, map 5 255, map 10 200, map 12 255, map 15 200, map 17 200, map 19 60", the other cells being 0.
abbrev pub example_map : List ℕ
example_map = 200 ∷ 0 ∷ 0 ∷ 200 ∷ 0 ∷ 255 ∷ 0 ∷ 0 ∷ 0 ∷ 0 ∷ 200 ∷ 0 ∷ 255 ∷ 0 ∷ 0 ∷ 200 ∷ 0 ∷ 200 ∷ 0 ∷ 60 ∷ []

-- "Marked * are proved." The starred ones, and the refusal that stands beside one of them: "I 6 with p 4".
abbrev pub table : List Figure
table =
    vectors 7 3 4 (answered (pair (minus 1) 2 (pos 3) 1)) ∷
    vectors 7 5 4 (answered (pair (minus 2) 1 (pos 3) 2)) ∷
    vectors 11 4 6 (answered (pair (minus 3) 2 (pos 4) 1)) ∷
    hits 11 4 6 1 11 hits_1_11 ∷
    vectors 4 1 4 (answered (pair (minus 3) 1 (pos 1) 1)) ∷
    vectors 4 1 6 (refused 6 Nowhere) ∷
    vectors 12 6 6 (answered (single (pos 0) 2)) ∷
    vectors 12 6 8 (answered (pair (minus 6) 1 (pos 6) 1)) ∷
    vectors 9 0 4 (answered (single (pos 0) 1)) ∷
    vectors 2 1 2 (answered (pair (minus 1) 1 (pos 1) 1)) ∷
    mapped example (7 ∷ 3 ∷ []) (60 ∷ 200 ∷ []) (0 ∷ 0 ∷ []) example_map ∷
    saved example example_map 1024 294 22327 ∷
    []
