-- What the inner steps that judge a call's input answer; and what those ask for that go from a block to its run and back.
use Rattle.std.proofs.Math.Option.{Option, some, none}
use Rattle.scope.specs.Refusal.{Refusal}
use Rattle.scope.specs.declared.Place.TheVariants.{AtSource}
use Rattle.std.specs.Prelude.{ℕ, ◌-◌, ◌≤◌, ◌≡◌, Result, Ok, Err}
use Rattle.scope.specs.declared.Run.{Run}
use Rattle.scope.specs.declared.RunCell.{RunCell}
use Rattle.scope.specs.declared.BlockCell.{BlockCell}
use Rattle.scope.specs.Run.{shift_of}

-- The verdict on the source at place k of a list: a refusal's place is that one.
unfoldable pub at_source : ℕ → Result (Unit {0}) Refusal → Result (Unit {0}) Refusal
at_source k (Ok fine) = Ok fine
at_source k (Err refusal) = Err (record { reason = refusal.reason; place = AtSource k })

-- A verdict on a call's tests, or on some of them, as an answer of the code.
abbrev pub verdict : Option Refusal → Result (Unit {0}) Refusal
verdict none = Ok tt
verdict (some c) = Err c

-- "A block is a run with the same window and interval and a part of the lines."
pub record IsBlock (run block : Run) : Type 0 where
  pub window : block.window ≡ run.window
  pub interval : block.interval ≡ run.interval
  pub from : run.first ≤ block.first
  pub to : block.last ≤ run.last

-- ".. or taking away": the run's cell as the block's.
abbrev pub to_block : Run → Run → RunCell → BlockCell
to_block run block cell = record { 0 = cell.0 - shift_of run block }
