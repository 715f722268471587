-- `hits::list_hits` meets its promise: the tests, and then the listing itself. Assumes nothing.
use Rattle.std.proofs.Common.{◌≡◌, List, arith, rules, ◌∙◌}
use Rattle.std.specs.Prelude.{ℕ, Result, Ok}
use Rattle.std.specs.Result.{IsErrAnd}
use Rattle.std.proofs.lemmas.Result.{err_from_is_err_and}
use Rattle.scope.specs.declared.Run.{Run}
use Rattle.scope.specs.declared.Source.{Source}
use Rattle.scope.specs.declared.RunCell.{RunCell}
use Rattle.scope.specs.declared.Refusal.{Refusal}
use Rattle.scope.proofs.Judged.{Fails, Passes, first, then, both, fine, blamed, refuse_reply, refuse_stored, grant_reply, grant_stored}
use Rattle.hits.specs.declared.Listing.{Listing}
use Rattle.hits.specs.Promise.{listing_tests, ListingPromise}
use Rattle.hits.specs.Inner.{ListsFrom}
use Rattle.hits.proofs.Lists.{allowed}
use Rattle.hits.proofs.list_hits.Goals as goal

-- a `?` hands on the refusal of tests that fail
stopped : {run : Run} {source : Source} {start : RunCell} {room : List ℕ} {v : Result Listing Refusal} {r : Refusal} → Fails (listing_tests run source start room) r.reason r.place → IsErrAnd v (λ s. s ≡ r) → ListingPromise run source start room v room
stopped {v = v} f e = let p = err_from_is_err_and v e in rw (p.1, p.2) (record { says = refuse_reply _ f; stores = refuse_stored _ _ f })

-- tests that pass are answered with the listing
granted : {run : Run} {source : Source} {start : RunCell} {room after : List ℕ} {listing : Listing} {v : Result Listing Refusal} → Passes (listing_tests run source start room) → ListsFrom run source start.0 room listing after → v ≡ Ok listing → ListingPromise run source start room v after
granted p l e = rw e (record { says = l.says ∙ grant_reply _ p; stores = l.stores ∙ grant_stored _ _ p })

pub returns-in_err-judge : goal.returns-in_err-judge
unfolding listing_tests
returns-in_err-judge c = stopped (first (blamed c.judge.ensures c.in_err-judge.was)) c.from_residual.ensures.1

pub returns-in_err-when : goal.returns-in_err-when
unfolding listing_tests
returns-in_err-when c = stopped (then (fine c.judge.ensures c.in_ok-judge.was) (blamed (rw c.is_empty.ensures at c.when.ensures) c.in_err-when.was)) c.from_residual-in_err-when.ensures.1

pub invariant_of-write_hits : goal.invariant_of-write_hits
invariant_of-write_hits c =
    let g = allowed (omega (arith, c.well_formed.0)) (fine c.judge.ensures c.in_ok-judge.was) in
    record { valid = (g.valid, g.source_valid) }

pub write_hits-listing-requires : goal.write_hits-listing-requires
write_hits-listing-requires c = (allowed (omega (arith, c.well_formed.0)) (fine c.judge.ensures c.in_ok-judge.was)).inside

pub returns : goal.returns
unfolding listing_tests
returns c =
    let p = both (fine c.judge.ensures c.in_ok-judge.was) (fine (rw c.is_empty.ensures at c.when.ensures) c.in_ok-when.was) in
    granted p c.write_hits-listing.ensures (search rules)
