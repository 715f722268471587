-- What the inner steps of reading answer, from `at` on in the text: what stands there and where it ends, or the refusal where nothing of
-- the kind does. A refusal carries its reason from where it arises, and each step hands it on.
use Rattle.std.specs.Prelude.{ℕ, ◌+◌, ◌≤◌, ◌≡◌, List, [], ◌∷◌, Result, Ok, Err, length, drop, set}
use Rattle.std.proofs.Math.Option.{none}
use Rattle.rooms.specs.Lists.{zeros}
use Rattle.words.specs.Inner.{Line, NoLine}
use Rattle.scope.specs.declared.Run.{Run}
use Rattle.scope.specs.declared.Reason.{Reason}
use Rattle.scope.specs.declared.Reason.TheVariants.{Text}
use Rattle.sources.specs.declared.Entry.{Entry}
use Rattle.sources.specs.Lists.{periods_of, weights_of, phases_of}
use Rattle.text.specs.Form.{run_word, src_word, run_numbers, SrcLine, src_numbers, meant, src_lines, sources_meant, SrcsSmall}
use Rattle.text.specs.Promise.{most_sources, Reads}
use Rattle.text.specs.declared.Input.{Input}

-- "Anything else in the text is refused 11": the reason that a refusal carries.
abbrev pub NotOfForm : Reason → Type 0
NotOfForm reason = reason ≡ Text

-- A run, and no source yet.
abbrev pub no_source_yet : Run → Input
no_source_yet run =
    record { run = run; count = 0; periods = zeros most_sources; weights = zeros most_sources; phases = zeros most_sources }

-- One source more, stored behind the others where there is room for it.
abbrev pub one_more : Input → Entry → Input
one_more input entry =
    record {
      run = input.run;
      count = input.count + 1;
      periods = set input.periods input.count entry.source.period;
      weights = set input.weights input.count entry.weight;
      phases = set input.phases input.count entry.source.phase;
    }

-- A `src` line stands at `at`, up to `next`: this one.
pub record SrcStands (text : List ℕ) (at : ℕ) (src : SrcLine) (next : ℕ) : Type 0 where
  pub stands : Line text at src_word (src_numbers src) next

-- No `src` line stands there, neither with a phase nor without.
pub record NoSrc (text : List ℕ) (at : ℕ) : Type 0 where
  pub long : NoLine text at src_word 3
  pub short : NoLine text at src_word 2

-- A `src` line stands at `at`, up to `next`, and means this source.
pub record SourceStands (text : List ℕ) (at : ℕ) (entry : Entry) (next : ℕ) : Type 0 where
  pub src : SrcLine
  pub is : SrcStands text at src next
  pub means : meant src ≡ entry

-- A `src` line is looked for.
abbrev pub SourceAt : List ℕ → ℕ → Result (Entry × ℕ) Reason → Type 0
SourceAt text at (Ok found) = SourceStands text at found.0 found.1
SourceAt text at (Err reason) = NotOfForm reason × NoSrc text at

-- From `at` on the text has these `src` lines and nothing else.
pub record Lines (text : List ℕ) (at : ℕ) (srcs : List SrcLine) : Type 0 where
  pub small : SrcsSmall srcs
  pub is : drop at text ≡ src_lines srcs

-- The text from `at` on is no `src` lines.
pub record NoLines (text : List ℕ) (at : ℕ) : Type 0 where
  pub none : (srcs : List SrcLine) → Lines text at srcs → ⊥

-- A room after these numbers were stored from its front on, as many as it has room for.
unfoldable pub stored_in : List ℕ → List ℕ → List ℕ
stored_in numbers [] = []
stored_in [] (old ∷ room) = old ∷ room
stored_in (n ∷ numbers) (old ∷ room) = n ∷ stored_in numbers room

-- The sources that these lines mean are counted, and stored as far as there is room for them.
pub record Stored (srcs : List SrcLine) (input : Input) : Type 0 where
  pub counted : length (sources_meant srcs) ≡ input.count
  pub stores_periods : input.periods ≡ stored_in (periods_of (sources_meant srcs)) (zeros most_sources)
  pub stores_weights : input.weights ≡ stored_in (weights_of (sources_meant srcs)) (zeros most_sources)
  pub stores_phases : input.phases ≡ stored_in (phases_of (sources_meant srcs)) (zeros most_sources)

-- From `at` on the text has `src` lines and nothing else; with this run, their sources are the input.
pub record LinesListed (text : List ℕ) (at : ℕ) (run : Run) (input : Input) : Type 0 where
  pub srcs : List SrcLine
  pub lines : Lines text at srcs
  pub of_run : input.run ≡ run
  pub stored : Stored srcs input

-- What a step that fills an input answers, with the input.
abbrev pub filled : Result (Unit {0}) Reason → Input → Result Input Reason
filled (Ok done) input = Ok input
filled (Err reason) input = Err reason

-- `src` lines are looked for, up to the end.
abbrev pub SourcesAt : List ℕ → ℕ → Run → Result Input Reason → Type 0
SourcesAt text at run (Ok input) = LinesListed text at run input
SourcesAt text at run (Err reason) = NotOfForm reason × NoLines text at

-- The text is a `run` line and, after it, `src` lines, which say this.
pub record AllLines (text : List ℕ) (input : Input) : Type 0 where
  pub short : length text ≤ 4096
  pub at : ℕ
  pub runs : Line text 0 run_word (run_numbers input.run) at
  pub lists : LinesListed text at input.run input

-- The `run` line of a whole text is looked for: its run, and where the line ends.
abbrev pub RunAt : List ℕ → Result (Run × ℕ) Reason → Type 0
RunAt text (Ok found) = (length text ≤ 4096) × Line text 0 run_word (run_numbers found.0) found.1
RunAt text (Err reason) = NotOfForm reason × Reads text none
