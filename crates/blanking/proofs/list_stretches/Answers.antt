-- `blanking::list_stretches` meets its promise: the tests, the count, and then the list itself. Assumes nothing.
use borrow.Author.Tests.{ltb-false}
use native.Mathlib.Omega.{arith}
use Prim.Native.Nat.{◌/◌}
use mathlib.Core.Path.{◌≡◌, ap, ◌∙◌}
use mathlib.Core.List.{List}
use lib.Dec.{ltb}
use lib.ListN.{length}
use Rattle.scope.specs.Refusal.{◌when◌, complaint}
use Rattle.scope.specs.declared.Reason.TheVariants.{StretchRoom}
use Rattle.scope.specs.Inner.{verdict}
use Rattle.scope.proofs.Judged.{Passes, then, both, fine, blamed}
use Rattle.scope.proofs.Limits.{passes_when}
use Rattle.blanking.specs.declared.Stretch.{Stretch}
use Rattle.blanking.specs.Stretches.{Blanked, MaximalStretches}
use Rattle.blanking.specs.Promise.{asked_tests, blanking_tests}
use Rattle.blanking.proofs.Guarding.{blanked_stretches}
use Rattle.blanking.proofs.InOrder.{guarded}
use Rattle.blanking.proofs.Writing.{given_all}
use Rattle.blanking.proofs.Unique.{stopped_asked, stopped_call, granted_call}
use Rattle.blanking.proofs.list_stretches.Goals as goal
use Rattle.blanking.proofs.list_stretches.Goals.{In_ok-judge, After-count-count, After-when}

-- what the verdict tells
passes : (c : In_ok-judge) → let a = c.args in Passes (asked_tests a.run a.map.now a.threshold a.guard)
passes c = fine c.judge.ensures c.in_ok-judge.was

-- what the iterator gives is counted
counted : (c : After-count-count) → let a = c.args in (all : List Stretch) → MaximalStretches (Blanked a.run a.map.now a.threshold a.guard) all → c.count-count.result ≡ length all
counted c all m = let r = c.count-count.ensures.ran in r.2 ∙ ap length (given_all c.stretches.result c.stretches.ensures.asks c.stretches.ensures.begins r.1 m)

-- whether the room holds them
room_judged : (c : After-when) → let a = c.args in (all : List Stretch) → MaximalStretches (Blanked a.run a.map.now a.threshold a.guard) all → c.when.result ≡ verdict (complaint (StretchRoom when ltb (length a.room.now / 2) (length all)))
room_judged c all m = rw (counted (goal.at.After-when c).After-count-count all m) at c.when.ensures

pub returns-in_err-judge : goal.returns-in_err-judge
returns-in_err-judge c = stopped_asked (blamed c.judge.ensures c.in_err-judge.was) c.from_residual.ensures.1

pub invariant_of-asked : goal.invariant_of-asked
invariant_of-asked c = record { in_order = guarded (omega (arith, c.well_formed.0)) (passes c) }

pub returns-in_err-when : goal.returns-in_err-when
unfolding blanking_tests
returns-in_err-when c =
    let a = c.args in
    let all = blanked_stretches a.run a.map.now a.threshold a.guard in
    let judged = room_judged (goal.at.returns-in_err-when c).After-when all.0 all.1 in
    stopped_call all.1 (then (passes (goal.at.returns-in_err-when c).In_ok-judge) (blamed judged c.in_err-when.was)) c.from_residual-in_err-when.ensures.1

pub write_stretches-requires : goal.write_stretches-requires
write_stretches-requires c all m =
    let judged = room_judged (goal.at.write_stretches-requires c).After-when all m in
    omega (arith, ltb-false (length c.args.room.now / 2) (length all) (passes_when (fine judged c.in_ok-when.was)))

pub returns : goal.returns
unfolding blanking_tests
returns c =
    let a = c.args in
    let all = blanked_stretches a.run a.map.now a.threshold a.guard in
    let judged = room_judged (goal.at.returns c).After-when all.0 all.1 in
    granted_call all.1 (both (passes (goal.at.returns c).In_ok-judge) (fine judged c.in_ok-when.was)) (counted (goal.at.returns c).After-count-count all.0 all.1) (c.write_stretches.ensures all.0 all.1)
