-- What a step answers that grants something where its tests pass: what makes such an answer, and what it tells. Assumes nothing.
use mathlib.Core.Path.{◌≡◌, refl, sym, ap, ◌∙◌}
use mathlib.Core.Option.{Option, some, none}
use Rattle.std.specs.Prelude.{Result, Ok, Err}
use Rattle.std.specs.Result.{IsErrAnd}
use Rattle.std.proofs.lemmas.Result.{err_from_is_err_and}
use Rattle.scope.specs.declared.Reason.{Reason}
use Rattle.scope.specs.declared.Place.{Place}
use Rattle.scope.specs.declared.Refusal.{Refusal}
use Rattle.scope.specs.Refusal.{Tests, complaint}
use Rattle.scope.proofs.Judged.{Fails, Passes}
use Rattle.sources.specs.Inner.{granted}

-- the refusal of tests that fail, whatever would have been granted
pub refuses : {A : Type 0} {tests : Tests} {reason : Reason} {place : Place} {refusal : Refusal} (answer : A) → Fails tests reason place → refusal ≡ record { reason = reason; place = place }
    → Err refusal ≡ granted (complaint tests) answer
refuses answer f e = rw (e, f.is)

-- a `?` hands on the refusal of tests that fail, whatever would have been granted
pub withheld : {A : Type 0} {tests : Tests} {v : Result A Refusal} {x : Refusal} (answer : A) → Fails tests x.reason x.place → IsErrAnd v (λ y. y ≡ x) → v ≡ granted (complaint tests) answer
withheld {v = v} answer f e = let p = err_from_is_err_and v e in rw (p.1, p.2, f.is)

-- tests that pass grant it
pub grants : {A : Type 0} {tests : Tests} {a answer : A} → Passes tests → a ≡ answer → Ok a ≡ granted (complaint tests) answer
grants p e = rw (p.is, e)

-- a refusal is that of tests that fail
pub refused_by : {A : Type 0} {tests : Tests} {v : Result A Refusal} {r : Refusal} (answer : A) → v ≡ granted (complaint tests) answer → v ≡ Err r → Fails tests r.reason r.place
refused_by {A} {tests} {r = r} answer e f = record { is = go (complaint tests) (sym e ∙ f) }
  where
    go : (o : Option Refusal) → granted o answer ≡ Err r → o ≡ some r
    go none e = cc
    go (some c) e = ap some cc

-- and what is granted comes of tests that pass
pub granted_by : {A : Type 0} {tests : Tests} {v : Result A Refusal} {a : A} (answer : A) → v ≡ granted (complaint tests) answer → v ≡ Ok a → Passes tests × (a ≡ answer)
granted_by {A} {tests} {a = a} answer e f = let both = go (complaint tests) (sym e ∙ f) in (record { is = both.0 }, both.1)
  where
    go : (o : Option Refusal) → granted o answer ≡ Ok a → (o ≡ none) × (a ≡ answer)
    go none e = (refl, cc)
    go (some c) e = cc
