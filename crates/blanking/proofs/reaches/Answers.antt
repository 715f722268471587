-- `blanking::reaches` meets its contract: the groups, and the cells after them (`proofs/Cells`). Assumes nothing.
use Rattle.std.proofs.Common.{◌/◌, length, rules, tests}
use Rattle.std.proofs.lemmas.Iterator.{cases_from_any, YieldsList-from_slice}
use mathlib.Core.Logic.Iff
use Rattle.blanking.specs.Inner.{Reaches}
use Rattle.blanking.proofs.Cells.{ToldOf, groups_reach, rest_reaches}
use Rattle.blanking.proofs.reaches.Goals as goal

pub returns-then-any : goal.returns-then-any
returns-then-any c =
    let cells = c.args.cells.now in
    let t = c.args.threshold in
    let told : ToldOf t 16 cells c.any.result = cases_from_any _ _ _ (λ g. Reaches g t) (λ g. Reaches g t → ⊥) c.any.ensures.ran (YieldsList-from_slice _ cc) (λ x q k. search (rules, tests)) (λ x q k. search (rules, tests)) in
    (groups_reach t 16 (length cells / 16) cells c.any.result told, λ r. c.if-any.true)

pub returns-else-any : goal.returns-else-any
returns-else-any c =
    let cells = c.args.cells.now in
    let t = c.args.threshold in
    let told : ToldOf t 16 cells c.any.result = cases_from_any _ _ _ (λ g. Reaches g t) (λ g. Reaches g t → ⊥) c.any.ensures.ran (YieldsList-from_slice _ cc) (λ x q k. search (rules, tests)) (λ x q k. search (rules, tests)) in
    Iff.trans (rw c.as_chunks.ensures.back at c.rest_reaches.ensures) (rest_reaches t 16 (length cells / 16) cells c.any.result told c.if-any.false)
