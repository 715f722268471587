-- `vectors::step_vectors` meets its contract: the first test that fails is the refusal; past them `find_basis` answers.
-- Assumes nothing.
use Prim.Native.Nat.{ℕ}
use mathlib.Core.Path.{subst}
use mathlib.Core.Option.{none}
use borrow.Author.Tests.{leb-false, ltb-false}
use native.Mathlib.Omega.{arith}
use Rattle.scope.specs.Refusal.{number, Tests, complaint}
use Rattle.scope.specs.declared.Reason.{Reason}
use Rattle.scope.specs.declared.Place.{Place}
use Rattle.scope.specs.Reply.{refused, answered}
use Rattle.scope.proofs.Judged.{Fails, Passes, fine, blamed}
use Rattle.scope.proofs.Limits.{passes_first, passes_then, passes_when, valid_window, valid_period}
use Rattle.vectors.specs.Vectors.{Values}
use Rattle.vectors.specs.Promise.{Admits, VectorsPromise, vectors_tests}
use Rattle.vectors.specs.Inner.{Spans, ValidSpan}
use Rattle.vectors.proofs.step_vectors.Goals as goal
use Rattle.vectors.proofs.step_vectors.Goals.{In_default}

refuse : {tests : Tests} {reason : Reason} {place : Place} (p r I : ℕ) → Fails tests reason place → Admits (complaint tests) p r I (refused (number reason) place)
refuse p r I f = rw f.is

grant : {tests : Tests} (p r I : ℕ) (v : Values) → Passes tests → Admits none p r I (answered v) → Admits (complaint tests) p r I (answered v)
grant p r I v q h = rw q.is h

-- past all tests
span : {p r I : ℕ} → Passes (vectors_tests p r I) → ValidSpan p r I
unfolding vectors_tests
span {p} {r} {I} q =
    let window = valid_window (passes_first (passes_first (passes_first q))) in
    let period = valid_period (passes_then (passes_first (passes_first q))) in
    let low = leb-false p r (passes_when (passes_then (passes_first q))) in
    let narrow = ltb-false p I (passes_when (passes_then q)) in
    record { remainder = low; some = omega arith; window = narrow; small = period.1 }

pub returns-in-Err : goal.returns-in-Err
unfolding VectorsPromise
returns-in-Err c = refuse _ _ _ (blamed c.judge.ensures c.in-Err.is)

pub find_basis-requires : goal.find_basis-requires
find_basis-requires c = span (fine c.judge.ensures c.in_default.is)

pub returns-in-Two : goal.returns-in-Two
unfolding VectorsPromise
returns-in-Two c = grant _ _ _ _ (fine c.judge.ensures c.in_default.is) (subst (Spans _ _ _) c.in-Two.is c.find_basis.ensures)

pub returns-in-One : goal.returns-in-One
unfolding VectorsPromise
returns-in-One c = grant _ _ _ _ (fine c.judge.ensures c.in_default.is) (subst (Spans _ _ _) c.in-One.is c.find_basis.ensures)
