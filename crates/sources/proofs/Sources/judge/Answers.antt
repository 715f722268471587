-- `sources::Sources::judge` meets its contract. The loop's invariant: what the tests of all sources come to is what those of the sources
-- from k on come to, the ones before k having passed theirs. Assumes nothing.
use mathlib.Core.Path.{◌≡◌, refl, sym, ap, ◌∙◌}
use mathlib.Core.List.{List}
use Prim.Native.Nat.{ℕ, suc, ◌+◌, ◌≤◌}
use native.Mathlib.Numerals.{add-one}
use native.Mathlib.Omega.{arith}
use lib.ListN.{length, drop}
use Rattle.std.specs.Prelude.{Some, Result, Ok, Err}
use Rattle.std.specs.List.{slice_get}
use Rattle.scope.specs.declared.Refusal.{Refusal}
use Rattle.scope.specs.Refusal.{complaint, of_source, or_else}
use Rattle.scope.specs.Inner.{verdict, at_source}
use Rattle.scope.specs.Run.{ceiling}
use Rattle.scope.proofs.Judged.{Fails, first, fine, blamed, grant_verdict}
use Rattle.scope.proofs.Verdicts.{stopped, verdict_source}
use Rattle.sources.specs.declared.Entry.{Entry}
use Rattle.sources.specs.Entry.{entry_tests, list_tests}
use Rattle.sources.proofs.Entries.{tests_on, tests_end}
use Rattle.sources.proofs.Sources.judge.Goals as goal
use Rattle.sources.proofs.Sources.judge.Invariants.{From}

module _ {entries : List Entry} {k : ℕ} (so_far : From entries k) where
  -- with no source behind them all have passed
  ends : length entries ≤ k → Ok tt ≡ verdict (complaint (list_tests ceiling 1 entries))
  ends h = grant_verdict (record { is = so_far.is ∙ (tests_end entries k h).is })

-- what a source's tests came to, as tests of the source at its place
told : (k : ℕ) (e : Entry) {own said : Result (Unit {0}) Refusal} → own ≡ verdict (complaint (entry_tests ceiling e)) → said ≡ at_source (k + 1) own → said ≡ verdict (complaint (of_source (suc k) (entry_tests ceiling e)))
told k e f g = (rw add-one at g) ∙ ap (at_source (suc k)) f ∙ sym (verdict_source (suc k) (entry_tests ceiling e))

module _ {entries : List Entry} {k : ℕ} (so_far : From entries k) {e : Entry} (here : slice_get entries k ≡ Some e) {said : Result (Unit {0}) Refusal} (own : said ≡ verdict (complaint (of_source (suc k) (entry_tests ceiling e)))) where
  -- a source that fails its tests is the first that does
  faulty : {r : Refusal} → said ≡ Err r → Fails (list_tests ceiling 1 entries) r.reason r.place
  faulty f = record { is = so_far.is ∙ ap complaint (tests_on entries k e here) ∙ (first (blamed own f)).is }

  -- after a source that passes its tests only those behind it count
  on : said ≡ Ok tt → From entries (k + 1)
  unfolding complaint
  on f = record { is = rw (add-one k) (so_far.is ∙ ap complaint (tests_on entries k e here) ∙ ap (λ x. or_else x (complaint (list_tests ceiling (suc (suc k)) (drop (suc k) entries)))) (fine {tests = of_source (suc k) (entry_tests ceiling e)} own f).is) }

pub returns-in_err-at_source : goal.returns-in_err-at_source
returns-in_err-at_source c = stopped (faulty c.loop-k.invariant c.entry.ensures (told _ _ c.judge.ensures c.at_source.ensures) c.in_err-at_source.was) c.from_residual.ensures.1

pub loop-k-init : goal.loop-k-init
loop-k-init c = record { is = refl }

pub loop-k-preserved : goal.loop-k-preserved
loop-k-preserved c = on c.loop-k.invariant c.entry.ensures (told _ _ c.judge.ensures c.at_source.ensures) c.in_ok-at_source.was

pub returns : goal.returns
returns c = ends c.loop-k.invariant (omega arith)
