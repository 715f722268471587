-- `hits::first_hit` meets its promise: the tests, and then the search. Assumes nothing.
use Rattle.std.proofs.Common.{arith, rules, ap, ◌∙◌}
use Rattle.std.proofs.lemmas.Result.{err_from_is_err_and}
use Rattle.scope.specs.Reply.{answered}
use Rattle.scope.proofs.Judged.{fine, blamed, refuse_reply, grant_reply}
use Rattle.hits.specs.Promise.{FirstHitPromise, cell_number}
use Rattle.hits.proofs.Lists.{allowed, found_first}
use Rattle.hits.proofs.first_hit.Goals as goal

pub returns-in_err-judge : goal.returns-in_err-judge
unfolding FirstHitPromise
returns-in_err-judge c =
    let p = err_from_is_err_and c.from_residual.result c.from_residual.ensures.1 in
    rw (p.1, p.2) (refuse_reply _ (blamed c.judge.ensures c.in_err-judge.was))

pub invariant_of-find_hit : goal.invariant_of-find_hit
invariant_of-find_hit c =
    let g = allowed (omega (arith, c.well_formed.0)) (fine c.judge.ensures c.in_ok-judge.was) in
    record { valid = (g.valid, g.source_valid) }

pub find_hit-requires : goal.find_hit-requires
find_hit-requires c = (allowed (omega (arith, c.well_formed.0)) (fine c.judge.ensures c.in_ok-judge.was)).inside

pub returns : goal.returns
unfolding FirstHitPromise
returns c =
    ap (λ found. answered (cell_number found)) (search rules)
    ∙ ap answered (found_first _ _ _ _ c.find_hit.ensures)
    ∙ grant_reply _ (fine c.judge.ensures c.in_ok-judge.was)
