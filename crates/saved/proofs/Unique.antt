-- Saving and reading each admit one outcome alone, for every input: no second reply fits, and some reply does. Assumes nothing.
use Prim.Native.Nat.{ℕ}
use mathlib.Core.Path.{◌≡◌, refl, sym, ◌∙◌}
use mathlib.Core.Logic.{◌↔◌, ◌⊎◌, inl, inr}
use mathlib.Core.List.{List}
use Rattle.scope.specs.declared.Run.{Run}
use Rattle.std.specs.Prelude.{Result, Ok, Err}
use Rattle.scope.specs.declared.Refusal.{Refusal}
use Rattle.scope.proofs.Judged.{Fails, Passes, same_refusal}
use Rattle.scope.proofs.Rendered.{judged}
use Rattle.saved.specs.File.{saving_tests, reading_tests}
use Rattle.saved.specs.Promise.{says, SavingPromise, ReadingPromise}
use Rattle.saved.proofs.Promises.{refuse_saving, grant_saving, refuse_reading, grant_reading}

-- what two replies say is the same only if they are
says_injective : {A : Type 0} (a b : Result A Refusal) → says a ≡ says b → a ≡ b
says_injective (Ok p) (Ok q) e = cc
says_injective (Ok p) (Err r) e = cc
says_injective (Err r) (Ok q) e = cc
says_injective (Err r) (Err s) e = let (reason, place) = same_refusal e in λ i. Err (record { reason = reason i; place = place i })

-- no second reply fits
pub saving_unique : {run : Run} {map file f g : List ℕ} {a b : Result (Unit {0}) Refusal} → SavingPromise run map file a f → SavingPromise run map file b g → (a ≡ b) × (f ≡ g)
saving_unique {a} {b} p q = (says_injective a b (p.says ∙ sym q.says), p.stores ∙ sym q.stores)

pub reading_unique : {file map f g : List ℕ} {a b : Result Run Refusal} → ReadingPromise file map a f → ReadingPromise file map b g → (a ≡ b) × (f ≡ g)
reading_unique {a} {b} p q = (says_injective a b (p.says ∙ sym q.says), p.stores ∙ sym q.stores)

-- so an outcome that is admitted is the only one
pub only_saving : {run : Run} {map file f : List ℕ} {a : Result (Unit {0}) Refusal} → SavingPromise run map file a f → (answer : Result (Unit {0}) Refusal) (after : List ℕ) → SavingPromise run map file answer after ↔ (answer ≡ a) × (after ≡ f)
only_saving p answer after = (λ q. saving_unique q p, λ e. rw (e.0, e.1) p)

pub only_reading : {file map f : List ℕ} {a : Result Run Refusal} → ReadingPromise file map a f → (answer : Result Run Refusal) (after : List ℕ) → ReadingPromise file map answer after ↔ (answer ≡ a) × (after ≡ f)
only_reading p answer after = (λ q. reading_unique q p, λ e. rw (e.0, e.1) p)

-- Some reply and some file after it fit saving.
pub saving_exists : (run : Run) (map room : List ℕ) → (answer : Result (Unit {0}) Refusal) × (after : List ℕ) × SavingPromise run map room answer after
saving_exists run map room = go (judged (saving_tests run map room))
  where
    go : Passes (saving_tests run map room) ⊎ ((c : Refusal) × Fails (saving_tests run map room) c.reason c.place) → (answer : Result (Unit {0}) Refusal) × (after : List ℕ) × SavingPromise run map room answer after
    go (inl p) = (Ok tt, _, grant_saving p refl)
    go (inr f) = (Err f.0, room, refuse_saving f.1)

-- Some reply and some map after it fit reading.
pub reading_exists : (file map : List ℕ) → (answer : Result Run Refusal) × (after : List ℕ) × ReadingPromise file map answer after
reading_exists file map = go (judged (reading_tests file map))
  where
    go : Passes (reading_tests file map) ⊎ ((c : Refusal) × Fails (reading_tests file map) c.reason c.place) → (answer : Result Run Refusal) × (after : List ℕ) × ReadingPromise file map answer after
    go (inl p) = (Ok _, _, grant_reading p refl refl)
    go (inr f) = (Err f.0, map, refuse_reading f.1)
