-- What follows from the promise alone: "That no second reply fits is proved", and some reply does. Assumes nothing.
use Prim.Native.Nat.{ℕ}
use mathlib.Core.Path.{◌≡◌, refl, sym, ap, ◌∙◌}
use mathlib.Core.Logic.{◌⊎◌, inl, inr}
use mathlib.Core.List.{List}
use lib.ListN.{length}
use Rattle.scope.specs.declared.Run.{Run}
use Rattle.std.specs.Prelude.{Result, Ok, Err}
use Rattle.std.specs.Result.{IsErrAnd}
use Rattle.std.proofs.lemmas.Result.{err_from_is_err_and}
use Rattle.scope.specs.declared.Refusal.{Refusal}
use Rattle.scope.specs.Refusal.{complaint}
use Rattle.scope.specs.Reply.{reply, stored}
use Rattle.scope.proofs.Judged.{Fails, Passes, first, same_refusal, refuse_reply, refuse_stored, grant_reply, grant_stored}
use Rattle.scope.proofs.Rendered.{judged}
use Rattle.blanking.specs.declared.Guard.{Guard}
use Rattle.blanking.specs.declared.Stretch.{Stretch}
use Rattle.blanking.specs.Stretches.{Blanked, MaximalStretches}
use Rattle.blanking.specs.Promise.{asked_tests, blanking_tests, written, says_blanking, BlankingPromise}
use Rattle.blanking.proofs.Stretches.{stretches_unique}
use Rattle.blanking.proofs.Guarding.{blanked_stretches}

-- an answer is told by what it says
pub says_blanking_injective : (a b : Result ℕ Refusal) → says_blanking a ≡ says_blanking b → a ≡ b
says_blanking_injective (Ok count) (Ok other) e = cc
says_blanking_injective (Ok count) (Err r) e = cc
says_blanking_injective (Err r) (Ok count) e = cc
says_blanking_injective (Err r) (Err s) e = let (reason, place) = same_refusal e in λ i. Err (record { reason = reason i; place = place i })

module _ {run : Run} {map : List ℕ} {threshold : ℕ} {guard : Guard} {room : List ℕ} where
  -- a call whose tests fail, whose tests pass
  pub refused_call : {r : Refusal} {stretches : List Stretch} → MaximalStretches (Blanked run map threshold guard) stretches → Fails (blanking_tests run map threshold guard room stretches) r.reason r.place → BlankingPromise run map threshold guard room (Err r) room
  refused_call {stretches = stretches} are f = record { stretches = stretches; are = are; says = refuse_reply (length stretches) f; stores = refuse_stored room (written stretches room) f }

  -- a `?` hands on the refusal of tests that fail
  pub stopped_call : {v : Result ℕ Refusal} {r : Refusal} {stretches : List Stretch} → MaximalStretches (Blanked run map threshold guard) stretches → Fails (blanking_tests run map threshold guard room stretches) r.reason r.place → IsErrAnd v (λ s. s ≡ r) → BlankingPromise run map threshold guard room v room
  stopped_call {v = v} are f e = let p = err_from_is_err_and v e in rw (p.1, p.2) (refused_call are f)

  pub granted_call : {count : ℕ} {after : List ℕ} {stretches : List Stretch} → MaximalStretches (Blanked run map threshold guard) stretches → Passes (blanking_tests run map threshold guard room stretches) → count ≡ length stretches → after ≡ written stretches room → BlankingPromise run map threshold guard room (Ok count) after
  granted_call {stretches = stretches} are p n e = record {
    stretches = stretches;
    are = are;
    says = ap (λ count. says_blanking (Ok count)) n ∙ grant_reply (length stretches) p;
    stores = e ∙ grant_stored room (written stretches room) p;
  }

  -- before the map is looked at
  pub stopped_asked : {v : Result ℕ Refusal} {r : Refusal} → Fails (asked_tests run map threshold guard) r.reason r.place → IsErrAnd v (λ s. s ≡ r) → BlankingPromise run map threshold guard room v room
  unfolding blanking_tests
  stopped_asked f e = stopped_call (blanked_stretches run map threshold guard).1 (first f) e

  -- "That no second reply fits is proved."
  pub blanking_unique : {a b : Result ℕ Refusal} {after other : List ℕ} → BlankingPromise run map threshold guard room a after → BlankingPromise run map threshold guard room b other → (a ≡ b) × (after ≡ other)
  blanking_unique {a} {b} p q =
      let same = stretches_unique p.are q.are in
      let tests = blanking_tests run map threshold guard room in (
        says_blanking_injective a b (p.says ∙ ap (λ l. reply (complaint (tests l)) (length l)) same ∙ sym q.says),
        p.stores ∙ ap (λ l. stored (complaint (tests l)) room (written l room)) same ∙ sym q.stores,
      )

-- And that one does.
pub blanking_exists : (run : Run) (map : List ℕ) (threshold : ℕ) (guard : Guard) (room : List ℕ) → (answer : Result ℕ Refusal) × (after : List ℕ) × BlankingPromise run map threshold guard room answer after
blanking_exists run map threshold guard room = go (blanked_stretches run map threshold guard)
  where
    go : (stretches : List Stretch) × MaximalStretches (Blanked run map threshold guard) stretches → (answer : Result ℕ Refusal) × (after : List ℕ) × BlankingPromise run map threshold guard room answer after
    go s = either (judged (blanking_tests run map threshold guard room s.0))
      where
        either : Passes (blanking_tests run map threshold guard room s.0) ⊎ ((c : Refusal) × Fails (blanking_tests run map threshold guard room s.0) c.reason c.place) → (answer : Result ℕ Refusal) × (after : List ℕ) × BlankingPromise run map threshold guard room answer after
        either (inl p) = (Ok (length s.0), _, granted_call s.1 p refl refl)
        either (inr f) = (Err f.0, _, refused_call s.1 f.1)
