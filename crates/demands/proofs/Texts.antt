-- Document 01, "The list program", and request E5: "the text line becomes `src period weight phase`, and a line without it means phase 0".
-- Which texts are not refused 11, what they say, and which are accepted; then the whole report on what they say is printed.
-- Assumes nothing.
use Rattle.std.specs.Prelude.{Result}
use Rattle.scope.specs.declared.Refusal.{Refusal}
use Prim.Native.Nat.{ℕ, suc, ◌<◌}
use native.Mathlib.Decide.{dec_lt}
use native.Mathlib.Omega.{arith}
use mathlib.Core.Path.{◌≡◌, refl, sym, ap, ◌∙◌}
use mathlib.Core.Logic.Iff
use mathlib.Core.Logic.{◌↔◌, ◌≢◌, inl, inr}
use mathlib.Core.List.{List, [], ◌∷◌}
use mathlib.Core.Option.{Option, some, none}
use lib.ListN.{length, take, length-take}
use lib.Seq.{take_all}
use borrow.Author.Tests.{ltb-false, le-ltb}
use Rattle.scope.specs.declared.Place.{Place}
use Rattle.scope.specs.declared.Place.TheVariants.{Nowhere}
use Rattle.scope.specs.Reply.{refused, answered}
use Rattle.scope.specs.Run.{ceiling, cells_of}
use Rattle.scope.proofs.Rendered.{Every, every_said}
use Rattle.sources.specs.declared.Entry.{Entry}
use Rattle.scope.proofs.Judged.{Passes, sound, both, grant_reply, grant_stored}
use Rattle.scope.proofs.Limits.{passes_when, passes_first, passes_then, valid_run, valid_run_passes}
use Rattle.sources.specs.Table.{sources_table}
use Rattle.sources.proofs.Entries.{valid_entries, valid_entries_pass}
use Rattle.text.specs.declared.Input.{Input}
use Rattle.text.specs.Form.{sources_meant, Content, Spells}
use Rattle.text.specs.Table.{text_table, SaysOfText}
use Rattle.text.specs.Promise.{most_sources, most_cells, Reads, text_tests, says_text, TextPromise, sources_of}
use Rattle.text.proofs.Says as Says
use Rattle.text.proofs.Unique as Unique
use Rattle.report.specs.declared.Output.{Output}
use Rattle.report.specs.Report.{refusal_report, whole_report, printed, report_of}
use Rattle.report.specs.Promise.{ReportPromise}
use Rattle.report.proofs.Unique.{output_prints}
use Rattle.report.proofs.Told.{whole_told}
use Rattle.demands.specs.Texts.{HasForm, ValidContent, printed_by}
use Rattle.demands.proofs.Demand1.{text_refused, report_refused}

-- ---- the form

-- no row of what follows 11 is 11
abbrev NotForm : ℕ → Place → Type 0
NotForm n place = n ≢ 11

sources_not_form : (k : ℕ) (entries : List Entry) → Every NotForm (sources_table k entries)
sources_not_form k [] = tt
sources_not_form k (entry ∷ entries) = (λ e. omega arith, (λ e. omega arith, (λ e. omega arith, sources_not_form (suc k) entries)))

not_form : (content : Content) → Every NotForm (text_table content)
not_form content = (λ e. omega arith, (λ e. omega arith, (λ e. omega arith, (λ e. omega arith, (λ e. omega arith, sources_not_form 1 content.entries)))))

-- no row says 11 of a text exactly if it has the form
silent_11 : (text : List ℕ) → ((place : Place) → SaysOfText text 11 place → ⊥) ↔ HasForm text
silent_11 text = let told = Says.reads_exists text in (go told.0 told.1, λ form place s. none_says form place s)
  where
    go : (o : Option Content) → Reads text o → ((place : Place) → SaysOfText text 11 place → ⊥) → HasForm text
    go none r f = absurd (f Nowhere (inl (inl (refl, refl, r))))
    go (some content) r f = (content.run, r.srcs, r.formed)

    none_says : HasForm text → (place : Place) → SaysOfText text 11 place → ⊥
    none_says form place (inl (inl k)) = k.2 (record { run = form.0; entries = sources_meant form.1 }) (record { srcs = form.1; formed = form.2; means = refl })
    none_says form place (inl (inr k)) = k.1
    none_says form place (inr k) = every_said NotForm (text_table k.0) (not_form k.0) 11 place k.2 refl

-- "Anything else in the text is refused 11": a text is not refused 11 exactly if it has at most 4,096 bytes, one `run` line, then `src`
-- lines, each in either spelling.
pub not_refused_11 : (text : List ℕ) (input : Result Input Refusal) → TextPromise text input → ((place : Place) → says_text input ≡ refused 11 place → ⊥) ↔ HasForm text
not_refused_11 text input h =
    let says = text_refused text input h 11 in
    Iff.trans (λ f place s. f place ((says place).1 s), λ f place e. f place ((says place).0 e)) (silent_11 text)

-- The same of what is printed of it.
pub not_printed_11 : (text : List ℕ) (output : Output) → ReportPromise text output → ((place : Place) → printed_by output ≡ refusal_report 11 place → ⊥) ↔ HasForm text
not_printed_11 text output h =
    let says = report_refused text output h 11 in
    Iff.trans (λ f place s. f place ((says place).1 s), λ f place e. f place ((says place).0 e)) (silent_11 text)

-- What a text says is unique: two texts may mean the same sources, but no text means two lists of them.
pub says_unique : (text : List ℕ) (a b : Content) → Spells text a → Spells text b → a ≡ b
says_unique text a b = Unique.spells_unique

-- Every text says a run and sources, or it has not the form.
pub reads_exists : (text : List ℕ) → (o : Option Content) × Reads text o
reads_exists = Says.reads_exists

-- ---- accepted texts

-- the tests of what a text says, and the limits
within : {text : List ℕ} {content : Content} → Spells text content → Passes (text_tests content) ↔ ValidContent content
unfolding text_tests
within {content = content} spells = (
  λ tests.
      let interval = spells.formed.run_small 1 in
      record {
        valid = valid_run (passes_first (passes_first (passes_first tests))) (omega arith);
        within = valid_entries ceiling 1 content.entries (passes_then tests);
        sources = ltb-false most_sources (length content.entries) (passes_when (passes_then (passes_first (passes_first tests))));
        cells = ltb-false most_cells (cells_of content.run) (passes_when (passes_then (passes_first tests)));
      },
  λ limits.
      both
      (both (both (valid_run_passes limits.valid) (sound (le-ltb _ _ limits.sources))) (sound (le-ltb _ _ limits.cells)))
      (valid_entries_pass ceiling 1 content.entries limits.within),
)

-- A text is accepted with a run and sources exactly if that is what it says and they are within the limits.
pub text_accepted : (text : List ℕ) (input : Result Input Refusal) → TextPromise text input → (content : Content) → ((says_text input ≡ answered content.run) × (sources_of input ≡ content.entries)) ↔ (Spells text content × ValidContent content)
text_accepted text input h content =
    Iff.trans (Unique.accepted text input h content) (λ s. (s.0, (within s.0).0 s.1), λ s. (s.0, (within s.0).1 s.1))

-- ---- the list program

-- what a text of more than 4,096 bytes says is that it has not the form
long_reads : (text other : List ℕ) → 4096 < length text → 4096 < length other → (o : Option Content) → Reads text o → Reads other o
long_reads text other h k none r = λ content s. omega (arith, s.formed.short)
long_reads text other h k (some content) r = absurd (omega (arith, r.formed.short))

-- "at most 4,096 bytes": to look at no more than 4,097 bytes of a text changes nothing of what it says.
pub reads_cut : (text : List ℕ) (o : Option Content) → Reads (take 4097 text) o ↔ Reads text o
reads_cut text o = go (dec_lt 4096 (length text))
  where
    go : Dec (4096 < length text) → Reads (take 4097 text) o ↔ Reads text o
    go (yes h) = let k : 4096 < length (take 4097 text) = omega (arith, length-take 4097 text) in (long_reads (take 4097 text) text k h o, long_reads text (take 4097 text) h k o)
    go (no h) = rw (take_all 4097 text (omega arith)) (λ r. r, λ r. r)

-- So the list program, which reads so many, prints what is printed of the whole text.
pub report_cut : (text : List ℕ) (output : Output) → ReportPromise (take 4097 text) output ↔ ReportPromise text output
report_cut text output = (
  λ p. record { content = p.content; reads = (reads_cut text p.content).0 p.reads; says = p.says },
  λ p. record { content = p.content; reads = (reads_cut text p.content).1 p.reads; says = p.says },
)

-- "The input .. gives, whole": of a text that says a run and sources within the limits the whole report on them is printed.
pub report_whole : (text : List ℕ) (content : Content) (output : Output) → Spells text content → ValidContent content → ReportPromise text output → printed_by output ≡ whole_report content.run content.entries
unfolding report_of printed
report_whole text content output spells limits h =
    let passes = (within spells).1 limits in
    let o = output_prints h in
    let says = Unique.reads_unique text o.content (some content) o.reads spells in
    let replies = grant_reply content.run passes in
    let hands = grant_stored [] content.entries passes in
    o.is ∙ ap report_of says ∙ rw (← replies, ← hands)

-- Two accepted texts print the same exactly if they say the same run and sources.
pub printed_same : (text other : List ℕ) (a b : Content) (output output' : Output) → Spells text a → ValidContent a → Spells other b → ValidContent b → ReportPromise text output → ReportPromise other output' → (printed_by output ≡ printed_by output') ↔ (a ≡ b)
printed_same text other a b output output' s v t w p q =
    let own = report_whole text a output s v p in
    let its = report_whole other b output' t w q in (
      λ e. let same = whole_told a.run b.run a.entries b.entries (sym own ∙ e ∙ its) in (λ k. record { run = same.0 k; entries = same.1 k }),
      λ e. own ∙ ap (λ (c : Content). whole_report c.run c.entries) e ∙ sym its,
    )
