-- How a call's complaint follows from its tests, taken one after the other, and what reply it makes. Assumes nothing.
use Prim.Native.Nat.{ℕ, ◌≤◌}
use mathlib.Core.Path.{◌≡◌, refl, sym, ap, ◌∙◌}
use mathlib.Core.Logic.{inl, inr}
use mathlib.Core.Bool.{Bool, true, false}
use mathlib.Core.Option.{Option, some, none}
use native.Mathlib.Omega.{arith}
use lib.ListN.{get_or}
use mathlib.Core.List.{[], ◌∷◌}
use Rattle.scope.specs.Refusal.{Refusal, Tests, ◌when◌, ◌and_then◌, of_source, nothing, complaint, number, Withdrawn}
use Rattle.scope.specs.declared.Reason.{Reason}
use Rattle.scope.specs.declared.Reason.TheVariants.{Window, LineOrder, LastLine, Interval, Period, Remainder, WiderThanPeriod, Weight, Start, Room, Lists, Text, TooMany, FileBlocks, Check, Layout, Threshold, Guard, StretchRoom, Phase}
use Rattle.scope.specs.declared.Place.{Place}
use Rattle.scope.specs.declared.Place.TheVariants.{Nowhere, AtSource}
use Rattle.scope.specs.Reply.{Said, refused, answered, reply, stored}
use Rattle.scope.specs.Inner.{verdict}
use Rattle.std.specs.Prelude.{Result, Ok, Err}

-- ---- "The refusal numbers": a number tells its reason

-- the reason with a number; for a number that no reason has, as 0, 2 and 16, the first
abbrev reason_of : ℕ → Reason
reason_of n =
    get_or
    (Window ∷ Window ∷ Window ∷ Interval ∷ Period ∷ Remainder ∷ WiderThanPeriod ∷ Weight ∷ Start ∷ Room ∷ Lists ∷ Text ∷ TooMany ∷ FileBlocks ∷ Check ∷ Layout ∷ Window ∷ LineOrder ∷ LastLine ∷ Threshold ∷ Guard ∷ StretchRoom ∷ Phase ∷ [])
    n Window

told : (reason : Reason) → reason_of (number reason) ≡ reason
told Window = refl
told LineOrder = refl
told LastLine = refl
told Interval = refl
told Period = refl
told Remainder = refl
told WiderThanPeriod = refl
told Weight = refl
told Start = refl
told Room = refl
told Lists = refl
told Text = refl
told TooMany = refl
told FileBlocks = refl
told Check = refl
told Layout = refl
told Threshold = refl
told Guard = refl
told StretchRoom = refl
told Phase = refl

-- no two reasons share a number
pub number_injective : (a b : Reason) → number a ≡ number b → a ≡ b
number_injective a b e = sym (told a) ∙ ap reason_of e ∙ told b

-- a number that would tell the window, but is not the window's, is no reason's
no_number : (n : ℕ) → reason_of n ≡ Window → (1 ≡ n → ⊥) → (reason : Reason) → number reason ≡ n → ⊥
no_number n e other reason is = other (ap number (sym (ap reason_of is ∙ e) ∙ told reason) ∙ is)

-- none is 0, so that 0 can stand for "not refused"
pub number_some : (reason : Reason) → 1 ≤ number reason
number_some reason = let none : number reason ≡ 0 → ⊥ = no_number 0 refl (λ e. omega arith) reason in omega (arith, none)

-- and none is withdrawn
pub number_not_withdrawn : (n : ℕ) → Withdrawn n → (reason : Reason) → number reason ≡ n → ⊥
number_not_withdrawn n (inl two) reason e = no_number 2 refl (λ e. omega arith) reason (e ∙ two)
number_not_withdrawn n (inr sixteen) reason e = no_number 16 refl (λ e. omega arith) reason (e ∙ sixteen)

-- ---- the complaint

-- the tests come to a complaint for this reason at this place
pub record Fails (tests : Tests) (reason : Reason) (place : Place) : Type 0 where
  pub is : complaint tests ≡ some (record { reason = reason; place = place })

-- the tests come to no complaint
pub record Passes (tests : Tests) : Type 0 where
  pub is : complaint tests ≡ none

-- one test
pub broken : {reason : Reason} {wrong : Bool} → wrong ≡ true → Fails (reason when wrong) reason Nowhere
unfolding complaint
broken e = record { is = rw e }

pub sound : {reason : Reason} {wrong : Bool} → wrong ≡ false → Passes (reason when wrong)
unfolding complaint
sound e = record { is = rw e }

-- tests one after the other: the first fails; the first passes and the second fails; both pass
pub first : {a b : Tests} {reason : Reason} {place : Place} → Fails a reason place → Fails (a and_then b) reason place
unfolding complaint
first f = record { is = rw f.is }

pub then : {a b : Tests} {reason : Reason} {place : Place} → Passes a → Fails b reason place → Fails (a and_then b) reason place
unfolding complaint
then p f = record { is = rw p.is f.is }

pub both : {a b : Tests} → Passes a → Passes b → Passes (a and_then b)
unfolding complaint
both p q = record { is = rw p.is q.is }

-- tests of the source at a place of a list
pub source_fails : {k : ℕ} {tests : Tests} {reason : Reason} {place : Place} → Fails tests reason place → Fails (of_source k tests) reason (AtSource k)
unfolding complaint
source_fails f = record { is = rw f.is }

pub source_passes : {k : ℕ} {tests : Tests} → Passes tests → Passes (of_source k tests)
unfolding complaint
source_passes p = record { is = rw p.is }

pub no_tests : Passes nothing
unfolding complaint
no_tests = record { is = refl }

-- what a verdict tells of the tests that it was made for
pub fine : {tests : Tests} {v : Result (Unit {0}) Refusal} → v ≡ verdict (complaint tests) → v ≡ Ok tt → Passes tests
fine {tests} e f = record { is = go (complaint tests) (sym e ∙ f) }
  where
    go : (o : Option Refusal) → verdict o ≡ Ok tt → o ≡ none
    go none e = refl
    go (some c) e = cc

pub blamed : {tests : Tests} {v : Result (Unit {0}) Refusal} {r : Refusal} → v ≡ verdict (complaint tests) → v ≡ Err r → Fails tests r.reason r.place
blamed {tests} {v} {r} e f = record { is = go (complaint tests) (sym e ∙ f) }
  where
    go : (o : Option Refusal) → verdict o ≡ Err r → o ≡ some r
    go none e = cc
    go (some c) e = ap some cc

-- what a complaint makes of the verdict, of the reply and of what is lent
pub refuse_verdict : {tests : Tests} {reason : Reason} {place : Place} → Fails tests reason place → Err (record { reason = reason; place = place }) ≡ verdict (complaint tests)
refuse_verdict f = rw f.is

pub refuse_reply : {A : Type 0} {tests : Tests} {reason : Reason} {place : Place} (a : A) → Fails tests reason place → refused (number reason) place ≡ reply (complaint tests) a
refuse_reply a f = rw f.is

pub refuse_stored : {A : Type 0} {tests : Tests} {reason : Reason} {place : Place} (before after : A) → Fails tests reason place → before ≡ stored (complaint tests) before after
refuse_stored before after f = rw f.is

-- what no complaint makes of them
pub grant_verdict : {tests : Tests} → Passes tests → Ok tt ≡ verdict (complaint tests)
grant_verdict p = rw p.is

pub grant_reply : {A : Type 0} {tests : Tests} (a : A) → Passes tests → answered a ≡ reply (complaint tests) a
grant_reply a p = rw p.is

pub grant_stored : {A : Type 0} {tests : Tests} (before after : A) → Passes tests → after ≡ stored (complaint tests) before after
grant_stored before after p = rw p.is

-- what a reply tells of the tests that it was made for
pub said_answered : {A : Type 0} {a b : A} (tests : Tests) → answered a ≡ reply (complaint tests) b → Passes tests × (a ≡ b)
said_answered {A} {a} {b} tests e = go (complaint tests) refl e
  where
    go : (o : Option Refusal) → complaint tests ≡ o → answered a ≡ reply o b → Passes tests × (a ≡ b)
    go none i e = (record { is = i }, cc)
    go (some c) i e = absurd (let z : ◌≡◌ {A = ℕ} 0 1 = cc in omega arith)

-- two replies that refuse say the same only if they do so with one number, at one place
pub refused_same : {A : Type 0} {m n : ℕ} {k l : Place} → ◌≡◌ {A = Said A} (refused m k) (refused n l) → (m ≡ n) × (k ≡ l)
refused_same e = (cc, cc)

-- a refusal is told by what a reply says
pub same_refusal : {A : Type 0} {a b : Reason} {k l : Place} → ◌≡◌ {A = Said A} (refused (number a) k) (refused (number b) l) → (a ≡ b) × (k ≡ l)
same_refusal {a = a} {b} e = let s = refused_same e in (number_injective a b s.0, s.1)

pub said_refused : {A : Type 0} {reason : Reason} {place : Place} (tests : Tests) (b : A) → refused (number reason) place ≡ reply (complaint tests) b → Fails tests reason place
said_refused {A} {reason} {place} tests b e = record { is = go (complaint tests) e }
  where
    go : (o : Option Refusal) → refused (number reason) place ≡ reply o b → o ≡ some (record { reason = reason; place = place })
    go none e = absurd (let z : ◌≡◌ {A = ℕ} 0 1 = cc in omega arith)
    go (some c) e =
        let s = refused_same e in
        let r = number_injective c.reason reason (sym s.0) in
        let p = sym s.1 in
        λ i. some (record { reason = r i; place = p i })
