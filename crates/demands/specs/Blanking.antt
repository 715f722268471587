-- Request E3 over a cut of a run: the blanking lists of the blocks, each of its part of the run's map.
use Rattle.std.specs.Prelude.{ℕ, ◌⊎◌, List, [], ◌∷◌, ◌++◌, Ok}
use Rattle.scope.specs.declared.Run.{Run}
use Rattle.blanking.specs.declared.Guard.{Guard}
use Rattle.blanking.specs.Promise.{BlankingPromise}
use Rattle.blanking.specs.Meaning.{ListedIn}

-- A block's call and its outcome: its part of the map and the room lent, the count answered and the room afterwards.
pub record BlockList : Type 0 where
  pub map : List ℕ
  pub room : List ℕ
  pub count : ℕ
  pub after : List ℕ

-- One call for each block, with one threshold and one guard, and none is refused. (The rooms may be of any length that holds the stretches.)
abbrev pub BlockLists : (threshold : ℕ) → Guard → List Run → List BlockList → Type 0
BlockLists threshold guard [] [] = Unit {0}
BlockLists threshold guard [] (list ∷ lists) = ⊥
BlockLists threshold guard (block ∷ blocks) [] = ⊥
BlockLists threshold guard (block ∷ blocks) (list ∷ lists) =
    BlankingPromise block list.map threshold guard list.room (Ok list.count) list.after × BlockLists threshold guard blocks lists

-- The parts of the map, joined in line order.
abbrev pub parts_of : List BlockList → List ℕ
parts_of [] = []
parts_of (list ∷ lists) = list.map ++ parts_of lists

-- Line j is in a stretch of one of the lists.
abbrev pub ListedInOne : List BlockList → ℕ → Type 0
ListedInOne [] j = ⊥
ListedInOne (list ∷ lists) j = ListedIn list.after list.count j ⊎ ListedInOne lists j
