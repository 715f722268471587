-- `blanking::rest_reaches` meets its contract: the fours, and the cells after them (`proofs/Cells`). Assumes nothing.
use Rattle.std.proofs.Common.{◌*◌, ◌/◌, ◌≤◌, length, drop, rules, tests}
use Rattle.std.proofs.lemmas.Iterator.{cases_from_any, YieldsList-from_slice}
use mathlib.Core.Logic.Iff
use Rattle.blanking.specs.Inner.{Reaches}
use Rattle.blanking.proofs.Cells.{ToldOf, groups_reach, rest_reaches, cells_reach}
use Rattle.blanking.proofs.rest_reaches.Goals as goal

pub returns-then-any : goal.returns-then-any
returns-then-any c =
    let cells = c.args.rest.now in
    let t = c.args.threshold in
    let told : ToldOf t 4 cells c.any.result = cases_from_any _ _ _ (λ g. Reaches g t) (λ g. Reaches g t → ⊥) c.any.ensures.ran (YieldsList-from_slice _ cc) (λ x q k. search (rules, tests)) (λ x q k. search (rules, tests)) in
    (groups_reach t 4 (length cells / 4) cells c.any.result told, λ r. c.if-any.true)

pub returns-else-any : goal.returns-else-any
returns-else-any c =
    let cells = c.args.rest.now in
    let t = c.args.threshold in
    let last = drop (length cells / 4 * 4) cells in
    let told : ToldOf t 4 cells c.any.result = cases_from_any _ _ _ (λ g. Reaches g t) (λ g. Reaches g t → ⊥) c.any.ensures.ran (YieldsList-from_slice _ cc) (λ x q k. search (rules, tests)) (λ x q k. search (rules, tests)) in
    let one = cases_from_any _ _ _ (λ x. t ≤ x) (λ x. t ≤ x → ⊥) c.any-else-any.ensures.ran (YieldsList-from_slice last cc) (λ x q k. search (rules, tests)) (λ x q k. search (rules, tests)) in
    Iff.trans (cells_reach t last c.any-else-any.result one) (rest_reaches t 4 (length cells / 4) cells c.any.result told c.if-any.false)
