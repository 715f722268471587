-- What both map calls promise, at any ceiling c and with any new cells: no second reply and no second map fits, and one does.
-- Assumes nothing.
use Prim.Native.Nat.{ℕ}
use mathlib.Core.Path.{◌≡◌, refl, sym, ◌∙◌}
use mathlib.Core.Logic.{◌⊎◌, inl, inr}
use mathlib.Core.List.{List}
use Rattle.scope.specs.declared.Run.{Run}
use Rattle.std.specs.Prelude.{Result, Ok, Err}
use Rattle.scope.specs.declared.Refusal.{Refusal}
use Rattle.scope.proofs.Judged.{Fails, Passes}
use Rattle.scope.proofs.Rendered.{judged}
use Rattle.map.specs.Promise.{map_tests, MapCallAt}
use Rattle.map.proofs.Calls.{says_map_injective, refused_call, granted_call}

-- "That no second reply fits is proved."
pub call_unique : {c : ℕ} {run : Run} {periods weights phases map new : List ℕ} {a b : Result (Unit {0}) Refusal} {after other : List ℕ} → MapCallAt c run periods weights phases map new a after → MapCallAt c run periods weights phases map new b other → (a ≡ b) × (after ≡ other)
call_unique {a = a} {b} m n = (says_map_injective a b (m.says ∙ sym n.says), m.stores ∙ sym n.stores)

-- And that one does.
pub call_exists : (c : ℕ) (run : Run) (periods weights phases map new : List ℕ) → (answer : Result (Unit {0}) Refusal) × (after : List ℕ) × MapCallAt c run periods weights phases map new answer after
call_exists c run periods weights phases map new = go (judged (map_tests c run periods weights phases map))
  where
    go : Passes (map_tests c run periods weights phases map) ⊎ ((b : Refusal) × Fails (map_tests c run periods weights phases map) b.reason b.place) → (answer : Result (Unit {0}) Refusal) × (after : List ℕ) × MapCallAt c run periods weights phases map new answer after
    go (inl p) = (Ok tt, _, granted_call p refl)
    go (inr f) = (Err f.0, map, refused_call f.1)
