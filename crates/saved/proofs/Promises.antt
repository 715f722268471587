-- How each promise is kept, and that it fixes the reply and what is lent. Assumes nothing.
use Prim.Native.Nat.{ℕ}
use mathlib.Core.Path.{◌≡◌, ap, ◌∙◌}
use mathlib.Core.List.{List}
use lib.ListN.{length}
use Rattle.scope.specs.declared.Run.{Run}
use Rattle.std.specs.Prelude.{Result, Ok, Err}
use Rattle.std.specs.Result.{IsErrAnd}
use Rattle.std.proofs.lemmas.Result.{err_from_is_err_and}
use Rattle.scope.specs.declared.Refusal.{Refusal}
use Rattle.scope.specs.Refusal.{Tests, complaint, run_tests}
use Rattle.scope.specs.Reply.{answered, reply}
use Rattle.scope.proofs.Judged.{Fails, Passes, refuse_reply, refuse_stored, grant_reply, grant_stored}
use Rattle.scope.proofs.Limits.{passes_first, passes_then}
use Rattle.scope.proofs.Differs.{same}
use Rattle.saved.specs.File.{file_blocks_for, file_length, bytes_for, file_of, file_block_at, run_of, map_of, heading_tests, later_file_blocks_tests, file_tests, saving_tests, reading_tests}
use Rattle.saved.specs.Promise.{says, SavingPromise, ReadingPromise}

pub refuse_saving : {run : Run} {map file : List ℕ} {r : Refusal} → Fails (saving_tests run map file) r.reason r.place → SavingPromise run map file (Err r) file
refuse_saving f = record { says = refuse_reply tt f; stores = refuse_stored _ _ f }

pub grant_saving : {run : Run} {map file after : List ℕ} → Passes (saving_tests run map file) → after ≡ file_of run map → SavingPromise run map file (Ok tt) after
grant_saving p e = record { says = grant_reply tt p; stores = e ∙ grant_stored _ _ p }

pub refuse_reading : {file map : List ℕ} {r : Refusal} → Fails (reading_tests file map) r.reason r.place → ReadingPromise file map (Err r) map
refuse_reading f = record { says = refuse_reply _ f; stores = refuse_stored _ _ f }

pub grant_reading : {run : Run} {file map after : List ℕ} → Passes (reading_tests file map) → run ≡ run_of file → after ≡ map_of file → ReadingPromise file map (Ok run) after
grant_reading p r e = record { says = ap answered r ∙ grant_reply _ p; stores = e ∙ grant_stored _ _ p }

-- a `?` hands on the refusal of tests that fail: a reply that says it
pub stopped : {A : Type 0} {tests : Tests} {r : Refusal} (a : A) (v : Result A Refusal) → Fails tests r.reason r.place → IsErrAnd v (λ s. s ≡ r) → says v ≡ reply (complaint tests) a
stopped a v f e = let p = err_from_is_err_and v e in rw (p.1, p.2) (refuse_reply a f)

pub stopped_saving : {run : Run} {map file : List ℕ} {v : Result (Unit {0}) Refusal} {r : Refusal} → Fails (saving_tests run map file) r.reason r.place → IsErrAnd v (λ s. s ≡ r) → SavingPromise run map file v file
stopped_saving {v = v} f e = record { says = stopped tt v f e; stores = refuse_stored _ _ f }

pub stopped_reading : {file map : List ℕ} {v : Result Run Refusal} {r : Refusal} → Fails (reading_tests file map) r.reason r.place → IsErrAnd v (λ s. s ≡ r) → ReadingPromise file map v map
stopped_reading {v = v} f e = record { says = stopped _ v f e; stores = refuse_stored _ _ f }

-- what is so of a file that passes its tests
pub record Accepted (file : List ℕ) : Type 0 where
  pub headed : Passes (heading_tests (file_block_at file 0))
  pub limited : Passes (run_tests (run_of file))
  pub long : length file ≡ file_length (bytes_for (run_of file))
  pub celled : Passes (later_file_blocks_tests (bytes_for (run_of file)) file (file_blocks_for (bytes_for (run_of file))))

pub accepted : {file : List ℕ} → Passes (file_tests file) → Accepted file
unfolding file_tests
accepted p =
    let to_count = passes_first p in
    let to_run = passes_first to_count in
    record {
      headed = passes_then (passes_first to_run);
      limited = passes_then to_run;
      long = same _ _ (passes_then to_count);
      celled = passes_then p;
    }
