-- What a text says, from the lines that were read in it, and which reply that makes. Assumes nothing.
use Rattle.std.specs.Prelude.{Result, Ok, Err, ltb}
use Rattle.std.specs.Result.{IsErrAnd}
use Rattle.std.proofs.lemmas.Result.{err_from_is_err_and}
use borrow.Author.Tests.{ltb-false}
use Prim.Native.Nat.{ℕ, ◌≤◌, ◌<◌}
use native.Mathlib.Omega.{arith}
use mathlib.Core.Path.{◌≡◌, refl, sym, ap, ◌∙◌, subst}
use mathlib.Core.List.{List, []}
use mathlib.Core.Option.{some, none}
use lib.ListN.{length, take, drop}
use Rattle.rooms.specs.Lists.{zeros, padded}
use Rattle.rooms.proofs.Lists.{length_zeros, padded_front, padded_is}
use Rattle.words.specs.Inner.{Line, NoLine}
use Rattle.words.proofs.Lines.{line_split}
use Rattle.scope.specs.declared.Run.{Run}
use Rattle.scope.specs.declared.Reason.{Reason}
use Rattle.scope.specs.declared.Refusal.{Refusal}
use Rattle.scope.specs.declared.Place.TheVariants.{Nowhere}
use Rattle.scope.specs.declared.Reason.TheVariants.{TooMany}
use Rattle.scope.specs.Run.{ValidRun, ceiling, cells_of}
use Rattle.scope.specs.Refusal.{◌when◌, ◌and_then◌, run_tests}
use Rattle.scope.proofs.Judged.{Fails, Passes, first, then, both, refuse_reply, grant_reply, grant_stored}
use Rattle.scope.proofs.Limits.{passes_when, passes_then, valid_run}
use Rattle.sources.specs.declared.Entry.{Entry}
use Rattle.sources.specs.Entry.{list_tests}
use Rattle.sources.specs.Lists.{periods_of, weights_of, phases_of}
use Rattle.sources.proofs.Entries.{entries_of_lem, periods_length, weights_length, phases_length}
use Rattle.text.specs.Form.{run_word, run_numbers, SrcLine, src_lines, sources_meant, text_of, Content, Spells}
use Rattle.text.specs.Promise.{most_sources, most_cells, Reads, text_tests, HasSources, TextPromise, sources_in}
use Rattle.text.specs.Inner.{NotOfForm, Lines, stored_in, Stored, AllLines, NoLines, LinesListed}
use Rattle.text.specs.declared.Input.{Input}
use Rattle.text.proofs.Listing.{stored_fits}

-- ---- what a text says

pub too_long : {text : List ℕ} → 4096 < length text → Reads text none
too_long h content s = omega (arith, s.formed.short)

pub no_run : {text : List ℕ} {count : ℕ} → count ≡ 4 → NoLine text 0 run_word count → Reads text none
unfolding text_of
no_run e n content s = n.none (run_numbers content.run) (src_lines s.srcs) (sym e) s.formed.run_small s.formed.spelled

module _ {text : List ℕ} {run : Run} {at : ℕ} (l : Line text 0 run_word (run_numbers run) at) where
  pub no_sources : NoLines text at → Reads text none
  unfolding text_of
  no_sources n content s =
      let f = s.formed in
      n.none s.srcs
      (record { small = f.srcs_small; is = (line_split run_word (run_numbers run) (run_numbers content.run) (drop at text) (src_lines s.srcs) (sym l.stands.is ∙ f.spelled)).1 })

  pub has_form : {srcs : List SrcLine} → length text ≤ 4096 → Lines text at srcs → Spells text (record { run = run; entries = sources_meant srcs })
  unfolding text_of
  has_form {srcs} h m =
      record { srcs = srcs; formed = record { spelled = l.stands.is ∙ rw m.is; run_small = l.small; srcs_small = m.small; short = h }; means = refl }

-- what the `run` line and the `src` lines after it say
pub all_read : {text : List ℕ} {at : ℕ} {run : Run} {input : Input} → length text ≤ 4096 → Line text 0 run_word (run_numbers run) at → LinesListed text at run input
    → AllLines text input
all_read short l s =
    record { short = short; at = _; runs = rw s.of_run l; lists = record { srcs = s.srcs; lines = s.lines; of_run = refl; stored = s.stored } }

-- ---- the reply that it makes

-- the refusal that was handed on
pub refuses_form : {text : List ℕ} {reason : Reason} {refusal : Refusal} → Reads text none → NotOfForm reason → refusal ≡ record { reason = reason; place = Nowhere }
    → TextPromise text (Err refusal)
refuses_form r f e = record { content = none; reads = r; says = rw (e, f); hands = tt }

pub refuses : {text : List ℕ} {content : Content} {refusal : Refusal} → Spells text content → Fails (text_tests content) refusal.reason refusal.place → TextPromise text (Err refusal)
refuses {content = content} s f = record { content = some content; reads = s; says = refuse_reply content.run f; hands = tt }

-- the lists of zeros, after the numbers were stored at their beginning
stored_padded : (numbers : List ℕ) (count : ℕ) → length numbers ≡ count → count ≤ most_sources → stored_in numbers (zeros most_sources) ≡ padded most_sources numbers
stored_padded numbers count l h =
    stored_fits numbers (zeros most_sources) (omega (arith, length_zeros most_sources)) ∙ sym (padded_is most_sources numbers)

-- the sources that an input has
pub sources_had : {entries : List Entry} {input : Input} → HasSources entries input → sources_in input ≡ entries
sources_had {entries} {input} g =
    let front : (list numbers : List ℕ) → list ≡ padded most_sources numbers → length numbers ≡ length entries → take input.count list ≡ numbers =
    λ list numbers is long. ap (take input.count) is ∙ padded_front most_sources input.count numbers (long ∙ sym g.counts) in
    rw (front _ _ g.periods (periods_length entries), front _ _ g.weights (weights_length entries), front _ _ g.phases (phases_length entries)) (entries_of_lem entries)

module _ {srcs : List SrcLine} {input : Input} (g : Stored srcs input) (few : input.count ≤ most_sources) where
  -- the sources that the lines mean
  abbrev sources : List Entry
  sources = sources_meant srcs

  has_sources : HasSources sources input
  has_sources =
      record {
        counts = sym g.counted;
        periods = g.stores_periods ∙ stored_padded (periods_of sources) input.count (periods_length sources ∙ g.counted) few;
        weights = g.stores_weights ∙ stored_padded (weights_of sources) input.count (weights_length sources ∙ g.counted) few;
        phases = g.stores_phases ∙ stored_padded (phases_of sources) input.count (phases_length sources ∙ g.counted) few;
      }

  pub accepts : {text : List ℕ} → Spells text (record { run = input.run; entries = sources }) → Passes (text_tests (record { run = input.run; entries = sources }))
      → TextPromise text (Ok input)
  accepts s p =
      record {
        content = some (record { run = input.run; entries = sources });
        reads = s;
        says = grant_reply input.run p;
        hands = subst (λ es. HasSources es input) (grant_stored [] sources p) has_sources;
      }

  -- the sources that are judged are theirs
  pub entries_stored : sources_in input ≡ sources
  entries_stored = sources_had has_sources

-- ---- the tests, one after the other

-- a `?` hands on a refusal
stops : {text : List ℕ} {content : Content} {v : Result Input Refusal} {refusal : Refusal} → Spells text content → Fails (text_tests content) refusal.reason refusal.place
    → IsErrAnd v (λ r. r ≡ refusal) → TextPromise text v
stops {text} {v = v} s f e = let p = err_from_is_err_and v e in subst (TextPromise text) (sym p.1) (refuses s (rw p.2 f))

module _ {text : List ℕ} {input : Input} (l : AllLines text input) where
  -- what the text says
  abbrev said : Content
  said = record { run = input.run; entries = sources_meant l.lists.srcs }

  formed : Spells text said
  formed = has_form l.runs l.short l.lists.lines

  -- the tests of the run and of the number of sources are judged together
  pub stops_at_run_or_count : {v : Result Input Refusal} {refusal : Refusal} → Fails (run_tests input.run and_then TooMany when ltb most_sources input.count) refusal.reason refusal.place → IsErrAnd v (λ r. r ≡ refusal) → TextPromise text v
  unfolding text_tests
  stops_at_run_or_count f e = stops formed (first (first (rw l.lists.stored.counted f))) e

  pub run_valid : Passes (run_tests input.run) → ValidRun input.run
  run_valid run_passes = valid_run run_passes (omega (arith, l.runs.small 1))

  module _ (two_pass : Passes (run_tests input.run and_then TooMany when ltb most_sources input.count)) where
    pub few : input.count ≤ most_sources
    few = ltb-false most_sources input.count (passes_when (passes_then two_pass))

    both_pass : Passes (run_tests input.run and_then TooMany when ltb most_sources (length said.entries))
    both_pass = rw l.lists.stored.counted two_pass

    module _ {cells : ℕ} (counted : cells ≡ cells_of input.run) where
      pub stops_at_cells : {v : Result Input Refusal} {refusal : Refusal} → Fails (TooMany when ltb most_cells cells) refusal.reason refusal.place → IsErrAnd v (λ r. r ≡ refusal) → TextPromise text v
      unfolding text_tests
      stops_at_cells f e = stops formed (first (then both_pass (rw counted at f))) e

      module _ (cells_pass : Passes (TooMany when ltb most_cells cells)) {entries : List Entry} (listed : entries ≡ sources_in input) where
        three_pass : Passes (run_tests input.run and_then TooMany when ltb most_sources (length said.entries) and_then TooMany when ltb most_cells (cells_of input.run))
        three_pass = both both_pass (rw counted at cells_pass)

        judged : entries ≡ said.entries
        judged = listed ∙ entries_stored l.lists.stored few

        pub stops_at_source : {v : Result Input Refusal} {refusal : Refusal} → Fails (list_tests ceiling 1 entries) refusal.reason refusal.place → IsErrAnd v (λ r. r ≡ refusal) → TextPromise text v
        unfolding text_tests
        stops_at_source f e = stops formed (then three_pass (rw judged at f)) e

        pub passes_all : Passes (list_tests ceiling 1 entries) → TextPromise text (Ok input)
        unfolding text_tests
        passes_all p = accepts l.lists.stored few formed (both three_pass (rw judged at p))
