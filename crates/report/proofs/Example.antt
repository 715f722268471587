-- Document 01, "The list program": "The input .. gives, whole", and the same with a phase, by computing. Assumes nothing.
use Prim.Native.Nat.{ℕ}
use native.Mathlib.Omega.{arith}
use mathlib.Core.Path.{◌≡◌, refl, ap, ◌∙◌}
use mathlib.Core.List.{List, [], ◌∷◌}
use mathlib.Core.Option.{some}
use lib.ListN.{take}
use Rattle.decimal.specs.Digits.{digits_within, digits}
use Rattle.rooms.proofs.Lists.{up_to}
use Rattle.scope.specs.Run.{run_with, lines_of, cells_of, line_of, offset_of}
use Rattle.scope.specs.Hit.{instant, is_hit, hits_among, hits_from}
use Rattle.scope.specs.Refusal.{complaint, window_tests, line_tests, run_tests, period_tests, weight_tests, phase_tests}
use Rattle.sources.specs.Entry.{entry_with, entry_tests, list_tests}
use Rattle.map.specs.Sum.{summed}
use Rattle.map.specs.Promise.{weight_at, made}
use Rattle.words.specs.Line.{fields, line}
use Rattle.text.specs.Form.{with_phase, without_phase, src_lines, sources_meant, text_of, Content, Spells}
use Rattle.text.specs.Promise.{text_tests}
use Rattle.text.proofs.Unique.{reads_unique}
use Rattle.report.specs.declared.Output.{Output}
use Rattle.report.specs.Report.{run_report, entry_report, src_report, cell_report, map_report, above, end_report, reported_map, cells_report, whole_report, printed, report_of}
use Rattle.report.specs.Promise.{ReportPromise}
use Rattle.report.specs.Example.{example_input, example_output, phased_input, phased_output}
use Rattle.report.proofs.Unique.{output_prints}

-- what the inputs say
abbrev example : Content
example = record { run = run_with 4 10 1 5; entries = entry_with 7 60 0 ∷ entry_with 3 200 0 ∷ [] }

abbrev phased : Content
phased = record { run = run_with 4 10 0 5; entries = entry_with 7 60 2 ∷ entry_with 3 200 0 ∷ [] }

spelled : Spells example_input example
unfolding example_input text_of src_lines sources_meant line fields digits digits_within
spelled = record {
  srcs = without_phase 7 60 ∷ without_phase 3 200 ∷ [];
  formed = record {
    spelled = refl;
    run_small = up_to (4 ∷ 10 ∷ 1 ∷ 5 ∷ []) (omega arith, (omega arith, (omega arith, (omega arith, tt))));
    srcs_small = (up_to (7 ∷ 60 ∷ []) (omega arith, (omega arith, tt)), (up_to (3 ∷ 200 ∷ []) (omega arith, (omega arith, tt)), tt));
    short = omega arith;
  };
  means = refl;
}

phased_spelled : Spells phased_input phased
unfolding phased_input text_of src_lines sources_meant line fields digits digits_within
phased_spelled = record {
  srcs = with_phase 7 60 2 ∷ without_phase 3 200 ∷ [];
  formed = record {
    spelled = refl;
    run_small = up_to (4 ∷ 10 ∷ 0 ∷ 5 ∷ []) (omega arith, (omega arith, (omega arith, (omega arith, tt))));
    srcs_small = (up_to (7 ∷ 60 ∷ 2 ∷ []) (omega arith, (omega arith, (omega arith, tt))), (up_to (3 ∷ 200 ∷ []) (omega arith, (omega arith, tt)), tt));
    short = omega arith;
  };
  means = refl;
}

-- what is printed of them
reported : (report_of (some example) ≡ example_output) × (report_of (some phased) ≡ phased_output)
unfolding example_output phased_output report_of printed whole_report run_report src_report entry_report cells_report map_report end_report reported_map cell_report above line fields digits digits_within text_tests run_tests window_tests line_tests period_tests weight_tests phase_tests entry_tests list_tests complaint made summed weight_at hits_from hits_among is_hit instant line_of offset_of cells_of lines_of
reported = (refl, refl)

-- An output that fits an input which says this prints what is printed of it.
prints : {text bytes : List ℕ} {content : Content} → Spells text content → report_of (some content) ≡ bytes → (output : Output) → ReportPromise text output → take output.length output.bytes ≡ bytes
prints {text} {content = content} s e output h =
    let p = output_prints h in
    p.is ∙ ap report_of (reads_unique text p.content (some content) p.reads s) ∙ e

-- An output that fits the example's input prints the example's lines.
pub example_printed : (output : Output) → ReportPromise example_input output → take output.length output.bytes ≡ example_output
example_printed = prints spelled reported.0

-- And so of the one with a phase.
pub phased_printed : (output : Output) → ReportPromise phased_input output → take output.length output.bytes ≡ phased_output
phased_printed = prints phased_spelled reported.1
