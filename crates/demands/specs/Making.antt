-- Request E6 over a cut of a run: the plain map call on each block, all sources in one call.
use Rattle.scope.specs.declared.Refusal.{Refusal}
use Rattle.std.specs.Prelude.{ℕ, ◌≡◌, List, [], ◌∷◌, length, Result}
use Rattle.scope.specs.declared.Run.{Run}
use Rattle.scope.specs.Run.{cells_of}
use Rattle.map.specs.Promise.{MakingPromiseAt}

-- A block's call and its outcome: the map lent, whatever it holds, the answer and the map afterwards.
pub record BlockMap : Type 0 where
  pub lent : List ℕ
  pub answer : Result (Unit {0}) Refusal
  pub after : List ℕ

-- One plain call for each block, with the same lists of sources and a map "of the exact length", and each keeps its promise.
abbrev pub BlockMaps : ℕ → (periods weights phases : List ℕ) → List Run → List BlockMap → Type 0
BlockMaps c periods weights phases [] [] = Unit {0}
BlockMaps c periods weights phases [] (map ∷ maps) = ⊥
BlockMaps c periods weights phases (block ∷ blocks) [] = ⊥
BlockMaps c periods weights phases (block ∷ blocks) (map ∷ maps) =
    (length map.lent ≡ cells_of block) ×
    MakingPromiseAt c block periods weights phases map.lent map.answer map.after ×
    BlockMaps c periods weights phases blocks maps

-- The blocks' maps as they were lent, in line order.
abbrev pub lents_of : List BlockMap → List (List ℕ)
lents_of [] = []
lents_of (map ∷ maps) = map.lent ∷ lents_of maps

-- And as they are afterwards.
abbrev pub afters_of : List BlockMap → List (List ℕ)
afters_of [] = []
afters_of (map ∷ maps) = map.after ∷ afters_of maps

-- Every call answers so.
abbrev pub EachAnswers : Result (Unit {0}) Refusal → List BlockMap → Type 0
EachAnswers answer [] = Unit {0}
EachAnswers answer (map ∷ maps) = (map.answer ≡ answer) × EachAnswers answer maps
