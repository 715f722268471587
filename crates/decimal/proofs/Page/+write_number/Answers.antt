-- `decimal::Page::write_number` meets its contract: what the inner call wrote and the last digit are two pieces one after the other.
-- Assumes nothing.
use Rattle.std.proofs.Common.{◌+◌, ◌%◌, ◌≡◌, [], ◌∷◌, ◌∙◌, sym, ap, arith}
use Rattle.rooms.proofs.Written.{written_length}
use Rattle.decimal.proofs.Laws.{digits_one, digits_more, length_one, length_more}
use Rattle.decimal.proofs.Pages.{writes_append, writes_same, writes_from}
use Rattle.decimal.proofs.Page.+write_number.Goals as goal
use Rattle.decimal.proofs.Page.+write_number.Goals.{then-n-ge10, else-n-ge10}

pub write_number-requires : goal.write_number-requires
write_number-requires t c = (omega arith, omega (arith, length_more c.args.n c.if-n-ge10.true))

pub write_digit-requires : goal.write_digit-requires
write_digit-requires t c =
    elim c.if-n-ge10.branch [
      | then-n-ge10 w ↦
          let v = w.write_number.ensures.written in
          (omega arith, rw w.self-is (omega (arith, v.ends, written_length v, length_more c.args.n w.if-n-ge10.true)))
      | else-n-ge10 w ↦ (omega arith, rw w.self-is (omega (arith, length_one c.args.n w.if-n-ge10.false)))
    ]

pub returns : goal.returns
returns t c =
    elim c.if-n-ge10.branch [
      | then-n-ge10 w ↦
          rw (digits_more c.args.n w.if-n-ge10.true)
          (writes_append w.write_number.ensures (writes_from w.self-is c.write_digit.ensures))
      | else-n-ge10 w ↦
          let last : c.args.n % 10 ≡ c.args.n = omega arith in
          writes_same (ap (λ d. (48 + d) ∷ []) last ∙ sym (digits_one c.args.n w.if-n-ge10.false)) (writes_from w.self-is c.write_digit.ensures)
    ]
