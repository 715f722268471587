-- `report::write_refusal` meets its contract: the word and the number, and behind them the place of a source. Assumes nothing.
use Rattle.std.proofs.Common.{◌≡◌, [], ◌∷◌, ◌++◌, ◌∙◌, length-append, arith}
use Rattle.decimal.specs.Digits.{digits}
use Rattle.decimal.specs.Inner.{Writes}
use Rattle.decimal.proofs.Pages.{writes_append, writes_same}
use Rattle.scope.specs.declared.Place.TheVariants.{Nowhere, AtSource}
use Rattle.scope.specs.Refusal.{number}
use Rattle.words.specs.Line.{line}
use Rattle.report.specs.Report.{source_word, refused_word, refusal_report}
use Rattle.report.proofs.Outputs.{digits_64, line_short, number_fits, piece_fits, behind_fits, place_written}
use Rattle.report.proofs.write_refusal.Goals as goal
use Rattle.report.proofs.write_refusal.Goals.{After-from-number, After-write_number}

-- the number is the reason's
told : (c : After-from-number) → c.from-number.result ≡ number c.args.refusal.reason
told c = c.from-number.ensures ∙ c.from.ensures

-- the word and the number are written
numbered : (c : After-write_number) → Writes c.args.page.now ((refused_word ++ (32 ∷ [])) ++ digits c.from-number.result) c.write_number.new.self
numbered c = writes_append c.write_bytes.ensures c.write_number.ensures

pub write_line-requires : goal.write_line-requires
unfolding refusal_report
write_line-requires c = number_fits c.requires _ (omega arith)

pub write_bytes-requires : goal.write_bytes-requires
write_bytes-requires c = piece_fits c.requires (refused_word ++ (32 ∷ [])) (omega arith)

pub write_number-requires : goal.write_number-requires
write_number-requires c = behind_fits c.requires c.write_bytes.ensures (digits _) (omega (arith, digits_64 c.from-number.result (omega arith)))

pub write_line-requires-in-AtSource : goal.write_line-requires-in-AtSource
write_line-requires-in-AtSource c =
    let n = c.from-number.result in
    let k = c.in-AtSource.k in
    behind_fits c.requires (numbered (goal.at.write_line-requires-in-AtSource c).After-write_number) (line (32 ∷ source_word) (k ∷ []))
    (omega (arith, digits_64 n (omega arith), line_short (32 ∷ source_word) k (omega arith), length-append (refused_word ++ (32 ∷ [])) (digits n)))

pub returns-in-Nowhere : goal.returns-in-Nowhere
unfolding refusal_report
returns-in-Nowhere c =
    let at = goal.at.returns-in-Nowhere c in
    let e : refusal_report c.from-number.result Nowhere ≡ refusal_report (number c.args.refusal.reason) c.args.refusal.place = rw (told at.After-from-number, c.in-Nowhere.is) in
    writes_same e c.write_line.ensures

pub returns-in-AtSource : goal.returns-in-AtSource
returns-in-AtSource c =
    let at = goal.at.returns-in-AtSource c in
    let e : refusal_report c.from-number.result (AtSource c.in-AtSource.k) ≡ refusal_report (number c.args.refusal.reason) c.args.refusal.place = rw (told at.After-from-number, c.in-AtSource.is) in
    writes_same (place_written _ _ ∙ e) (writes_append (numbered at.After-write_number) c.write_line-in-AtSource.ensures)
