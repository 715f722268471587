-- The output of a text: from what was written into the blank room, and from what the text says. Assumes nothing.
use Prim.Native.Nat.{ℕ, ◌+◌, ◌≤◌, ◌<◌, ◌^◌}
use native.Mathlib.Omega.{arith}
use native.Mathlib.Nat.{zero-add}
use mathlib.Core.Path.{◌≡◌, refl, sym, ap, ◌∙◌, subst}
use mathlib.Core.List.{List, [], ◌∷◌, ◌++◌}
use lib.ListN.{length, drop, length-append}
use borrow.Author.Tests.{ltb-false}
use Rattle.rooms.specs.Lists.{zeros}
use Rattle.rooms.specs.Inner.{Written}
use Rattle.rooms.proofs.Lists.{length_zeros, padded_is}
use Rattle.rooms.proofs.Written.{written_length}
use Rattle.decimal.specs.Digits.{digits}
use Rattle.decimal.proofs.Laws.{length_le}
use Rattle.std.specs.Prelude.{Ok, Err}
use Rattle.scope.specs.declared.Refusal.{Refusal}
use Rattle.scope.specs.declared.Place.TheVariants.{Nowhere, AtSource}
use Rattle.scope.specs.Refusal.{number}
use Rattle.scope.specs.Run.{cells_of}
use Rattle.scope.proofs.Judged.{Passes}
use Rattle.scope.proofs.Limits.{passes_when, passes_first, passes_then, valid_run}
use Rattle.decimal.specs.declared.Page.{Page}
use Rattle.decimal.specs.Inner.{Fits, Writes}
use Rattle.decimal.proofs.Pages.{writes_same}
use Rattle.words.specs.Line.{fields, line}
use Rattle.text.specs.Form.{Content, Spells}
use Rattle.text.specs.Promise.{most_sources, most_cells, handed, text_tests, TextPromise, sources_in}
use Rattle.text.specs.declared.Input.{Input}
use Rattle.text.proofs.Unique.{sources_handed, accepted}
use Rattle.report.specs.Report.{refused_word, source_word, refusal_report, whole_report, printed, report_of}
use Rattle.report.specs.Promise.{room_bytes, Prints, ReportPromise}
use Rattle.report.specs.Inner.{ValidInput, Blank, WritesReport}
use Rattle.report.proofs.Longest.{whole_long}

-- ---- the room

-- what was written into the blank room is the output
prints : {room bytes : List ℕ} {next : ℕ} {after : List ℕ} → room ≡ zeros room_bytes → Written room 0 bytes next after → Prints bytes (record { length = next; bytes = after })
prints {room} {bytes} {next} {after} e w =
    let count : next ≡ length bytes = w.ends ∙ zero-add (length bytes) in
    record {
      counts = count;
      begins = w.kept ∙ ap (λ k. bytes ++ drop k room) count ∙ ap (λ b. bytes ++ drop (length bytes) b) e ∙ sym (padded_is room_bytes bytes);
    }

-- ---- the line of a refusal

-- a number of 64 bits has at most 20 digits
pub digits_64 : (n : ℕ) → n < 2 ^ 64 → length (digits n) ≤ 20
digits_64 n h = length_le 19 n (omega arith)

-- nor has a line with one such number more than 22 bytes behind its word
pub line_short : (word : List ℕ) (n : ℕ) → n < 2 ^ 64 → length (line word (n ∷ [])) ≤ length word + 22
unfolding line fields
line_short word n h =
    omega (arith, length-append word (32 ∷ digits n ++ (10 ∷ [])), length-append (digits n) (10 ∷ []), digits_64 n h)

-- the word and a space, the number, and the place
pub place_written : (n k : ℕ) → ((refused_word ++ (32 ∷ [])) ++ digits n) ++ line (32 ∷ source_word) (k ∷ []) ≡ refusal_report n (AtSource k)
unfolding refusal_report line
place_written n k = refl

module _ {page : Page} (b : Blank page) where
  room_long : length page.room.now ≡ room_bytes
  room_long = ap length b.blank ∙ length_zeros room_bytes

  pub whole_fits : {input : Input} → ValidInput input → Fits page (whole_report input.run (sources_in input))
  whole_fits a = omega (arith, whole_long a, room_long, b.begins)

  pub number_fits : (n : ℕ) → n < 2 ^ 64 → Fits page (refusal_report n Nowhere)
  unfolding refusal_report
  number_fits n h = omega (arith, room_long, b.begins, line_short refused_word n h)

  -- a short piece fits, and another behind it
  pub piece_fits : (bytes : List ℕ) → length bytes ≤ 900000 → Fits page bytes
  piece_fits bytes h = omega (arith, room_long, b.begins)

  pub behind_fits : {bytes : List ℕ} {after : Page} → Writes page bytes after → (more : List ℕ) → length bytes + length more ≤ 900000 → Fits after more
  behind_fits w more h = omega (arith, room_long, b.begins, w.written.ends, written_length w.written)

-- what is written on a blank page is the output
pub page_prints : {text : List ℕ} {page after : Page} {bytes : List ℕ} → Blank page → WritesReport text page after → bytes ≡ after.room.now → ReportPromise text (record { length = after.at; bytes = bytes })
page_prints {page = page} {after} b w e =
    let written = subst (λ at. Written page.room.now at (report_of w.content) after.at after.room.now) b.begins w.writes.written in
    record { content = w.content; reads = w.reads; says = subst (λ bs. Prints (report_of w.content) (record { length = after.at; bytes = bs })) (sym e) (prints b.blank written) }

-- ---- the text

module _ {text : List ℕ} {input : Input} (p : TextPromise text (Ok input)) where
  -- what the text says
  abbrev content : Content
  content = record { run = input.run; entries = sources_in input }

  spells : Spells text content × Passes (text_tests content)
  spells = (accepted text (Ok input) p content).0 (refl, refl)

  pub accepts : ValidInput input
  unfolding text_tests
  accepts =
      let t = spells.1 in
      let few = ltb-false most_sources (length (sources_in input)) (passes_when (passes_then (passes_first (passes_first t)))) in
      record {
        valid = valid_run (passes_first (passes_first (passes_first t))) (omega (arith, spells.0.formed.run_small 1));
        few = ltb-false most_cells (cells_of input.run) (passes_when (passes_then (passes_first t)));
        counted = omega (arith, p.hands.counts, ap length (sources_handed text (Ok input) p));
        sound = (passes_then t).is;
      }

  pub reports : {before after : Page} → Writes before (whole_report input.run (sources_in input)) after → WritesReport text before after
  unfolding report_of printed
  reports w =
      let whole : whole_report input.run (sources_in input) ≡ report_of p.content =
      ap (whole_report input.run) (sources_handed text (Ok input) p) ∙ ap (λ r. printed r (handed p.content)) p.says in
      record { content = p.content; reads = p.reads; writes = writes_same whole w }

pub reports_refusal : {text : List ℕ} {refusal : Refusal} {before after : Page} → TextPromise text (Err refusal) → Writes before (refusal_report (number refusal.reason) refusal.place) after → WritesReport text before after
unfolding report_of printed
reports_refusal p w = record { content = p.content; reads = p.reads; writes = writes_same (ap (λ r. printed r (handed p.content)) p.says) w }
