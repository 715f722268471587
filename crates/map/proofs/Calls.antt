-- What both map calls promise (`MapCallAt`), at any ceiling c and with any new cells: what makes it, what a call that is done and one that
-- is refused leave, and what of the map lent and of the new cells counts. Assumes nothing.
use Prim.Native.Nat.{ℕ}
use mathlib.Core.Path.{◌≡◌, refl, sym, ap, ap₂, ◌∙◌}
use mathlib.Core.Bool.{not}
use mathlib.Core.Logic.{◌⊎◌, inl, inr}
use mathlib.Core.List.{List}
use lib.Dec.{eqb}
use lib.ListN.{length}
use borrow.Author.Tests.{eq-eqb}
use Rattle.scope.specs.declared.Run.{Run}
use Rattle.scope.specs.Run.{ValidRun, cells_of}
use Rattle.std.specs.Prelude.{Result, Ok, Err}
use Rattle.scope.specs.declared.Refusal.{Refusal}
use Rattle.scope.specs.Refusal.{complaint, ◌when◌, ◌and_then◌, run_tests}
use Rattle.scope.specs.declared.Reason.TheVariants.{Room}
use Rattle.scope.specs.Reply.{reply, stored}
use Rattle.scope.proofs.Judged.{Fails, Passes, sound, both, same_refusal, refuse_reply, refuse_stored, grant_reply, grant_stored, said_answered, said_refused}
use Rattle.scope.proofs.Limits.{passes_then, valid_run_passes}
use Rattle.scope.proofs.Differs.{same}
use Rattle.scope.proofs.Rendered.{judged}
use Rattle.sources.specs.Entry.{source_lists_tests}
use Rattle.map.specs.Promise.{map_tests, says_map, MapCallAt}

-- an answer is told by what it says
pub says_map_injective : (a b : Result (Unit {0}) Refusal) → says_map a ≡ says_map b → a ≡ b
says_map_injective (Ok done) (Ok done') e = refl
says_map_injective (Ok done) (Err refusal) e = cc
says_map_injective (Err refusal) (Ok done) e = cc
says_map_injective (Err refusal) (Err refusal') e = let s = same_refusal e in ap₂ (λ reason place. Err (record { reason = reason; place = place })) s.0 s.1

-- ---- what makes it, and what is left

module _ {c : ℕ} {run : Run} {periods weights phases map new : List ℕ} where
  pub refused_call : {refusal : Refusal} → Fails (map_tests c run periods weights phases map) refusal.reason refusal.place → MapCallAt c run periods weights phases map new (Err refusal) map
  refused_call f = record { says = refuse_reply tt f; stores = refuse_stored map new f }

  pub granted_call : {after : List ℕ} → Passes (map_tests c run periods weights phases map) → after ≡ new → MapCallAt c run periods weights phases map new (Ok tt) after
  granted_call p e = record { says = grant_reply tt p; stores = e ∙ grant_stored map new p }

  -- a call that passes its tests is done and leaves the new cells
  pub stores_new : {answer : Result (Unit {0}) Refusal} {after : List ℕ} → Passes (map_tests c run periods weights phases map) → MapCallAt c run periods weights phases map new answer after → (answer ≡ Ok tt) × (after ≡ new)
  stores_new {answer} p m = (says_map_injective answer (Ok tt) (m.says ∙ sym (grant_reply tt p)), m.stores ∙ sym (grant_stored map new p))

  -- a call that is done has passed its tests and leaves the new cells, one that is refused leaves the map lent
  pub done_passes : {after : List ℕ} → MapCallAt c run periods weights phases map new (Ok tt) after → Passes (map_tests c run periods weights phases map)
  done_passes m = (said_answered _ m.says).0

  pub done_leaves : {after : List ℕ} → MapCallAt c run periods weights phases map new (Ok tt) after → after ≡ new
  done_leaves m = (stores_new (done_passes m) m).1

  pub refused_leaves : {after : List ℕ} {refusal : Refusal} → MapCallAt c run periods weights phases map new (Err refusal) after → after ≡ map
  refused_leaves {refusal = refusal} m = m.stores ∙ sym (refuse_stored {reason = refusal.reason} {place = refusal.place} map new (said_refused _ tt m.says))

  -- of the new cells only those count that a call makes which is not refused
  pub new_same : {other : List ℕ} {answer : Result (Unit {0}) Refusal} {after : List ℕ} → (Passes (map_tests c run periods weights phases map) → new ≡ other) → MapCallAt c run periods weights phases map new answer after → MapCallAt c run periods weights phases map other answer after
  new_same {other} e m = record { says = m.says; stores = m.stores ∙ go (judged (map_tests c run periods weights phases map)) }
    where
      go : Passes (map_tests c run periods weights phases map) ⊎ ((b : Refusal) × Fails (map_tests c run periods weights phases map) b.reason b.place) → stored (complaint (map_tests c run periods weights phases map)) map new ≡ stored (complaint (map_tests c run periods weights phases map)) map other
      go (inl p) = ap (stored (complaint (map_tests c run periods weights phases map)) map) (e p)
      go (inr f) = sym (refuse_stored map new f.1) ∙ refuse_stored map other f.1

-- ---- of the map lent the tests look at the length alone

module _ (c : ℕ) (run : Run) (periods weights phases : List ℕ) where
  -- they are passed where the run is valid, the lists pass theirs and the map is of the run's length
  pub call_passes : (map : List ℕ) → ValidRun run → Passes (source_lists_tests c periods weights phases) → length map ≡ cells_of run → Passes (map_tests c run periods weights phases map)
  unfolding map_tests
  call_passes map v lists whole = both (both (valid_run_passes v) lists) (sound (ap not (eq-eqb _ _ whole)))

  -- a call that passes them has a map of the run's length
  pub passes_whole : (map : List ℕ) → Passes (map_tests c run periods weights phases map) → length map ≡ cells_of run
  unfolding map_tests
  passes_whole map p = same (length map) (cells_of run) (passes_then p)

  tests_alike : (map other : List ℕ) → length map ≡ length other → map_tests c run periods weights phases map ≡ map_tests c run periods weights phases other
  unfolding map_tests
  tests_alike map other e = ap (λ n. (run_tests run and_then source_lists_tests c periods weights phases) and_then Room when not (eqb n (cells_of run))) e

  -- so calls on maps as long answer alike, whatever cells each makes
  pub answers_alike : {map other new new' : List ℕ} {a b : Result (Unit {0}) Refusal} {after after' : List ℕ} → length map ≡ length other → MapCallAt c run periods weights phases map new a after → MapCallAt c run periods weights phases other new' b after' → a ≡ b
  answers_alike {map} {other} {a = a} {b} e m n = says_map_injective a b (m.says ∙ ap (λ t. reply (complaint t) tt) (tests_alike map other e) ∙ sym n.says)

  -- and a call that is done, with new cells that do not go by the map lent, is done so with every other map as long
  pub whatever_held : {map other new after : List ℕ} → MapCallAt c run periods weights phases map new (Ok tt) after → length map ≡ length other → MapCallAt c run periods weights phases other new (Ok tt) after
  whatever_held {map} {other} m e = granted_call (rw (tests_alike map other e) at (done_passes m)) (done_leaves m)
