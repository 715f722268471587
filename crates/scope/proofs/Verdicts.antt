-- The verdict on tests that are taken one after the other, by `?` or by `and`, is the first that refuses. Assumes nothing.
use Prim.Native.Nat.{ℕ}
use mathlib.Core.Path.{◌≡◌, refl, ◌∙◌}
use mathlib.Core.Option.{Option, some, none}
use Rattle.std.specs.Prelude.{Result}
use Rattle.std.specs.Result.{IsErrAnd, result_and}
use Rattle.std.proofs.lemmas.Result.{err_from_is_err_and}
use Rattle.scope.specs.Refusal.{Refusal, Tests, ◌and_then◌, of_source, or_else, placed, complaint}
use Rattle.scope.specs.Inner.{verdict, at_source}
use Rattle.scope.proofs.Judged.{Fails, Passes, refuse_verdict}

-- a `?` hands on the refusal of tests that fail
pub stopped : {tests : Tests} {v : Result (Unit {0}) Refusal} {x : Refusal} → Fails tests x.reason x.place → IsErrAnd v (λ y. y ≡ x) → v ≡ verdict (complaint tests)
stopped {v = v} f e = let p = err_from_is_err_and v e in rw (p.1, p.2) (refuse_verdict f)

-- after tests that pass, what those behind them come to is the verdict on all
pub passed : {a : Tests} (b : Tests) {v : Result (Unit {0}) Refusal} → Passes a → v ≡ verdict (complaint b) → v ≡ verdict (complaint (a and_then b))
unfolding complaint
passed b p e = e ∙ rw p.is

-- of two complaints
verdict_or : (a b : Option Refusal) → verdict (or_else a b) ≡ result_and (verdict a) (verdict b)
verdict_or none b = refl
verdict_or (some c) b = refl

-- an `and` of what tests come to, and those behind them, is the verdict on all
pub joined : (a b : Tests) {u v w : Result (Unit {0}) Refusal} → u ≡ verdict (complaint a) → v ≡ verdict (complaint b) → w ≡ result_and u v → w ≡ verdict (complaint (a and_then b))
unfolding complaint
joined a b p q e = e ∙ rw (p, q, verdict_or (complaint a) (complaint b))

verdict_placed : (k : ℕ) (a : Option Refusal) → verdict (placed k a) ≡ at_source k (verdict a)
unfolding at_source
verdict_placed k none = refl
verdict_placed k (some c) = refl

-- of the tests of the source at place k of a list
pub verdict_source : (k : ℕ) (tests : Tests) → verdict (complaint (of_source k tests)) ≡ at_source k (verdict (complaint tests))
unfolding complaint
verdict_source k tests = verdict_placed k (complaint tests)
