-- `list::list` meets its contract: the text is all that was read, and the bytes that are written are those of its report. Assumes nothing.
use Rattle.std.proofs.Common.{◌≤◌, sym, length, take, arith}
use Rattle.std.proofs.Math.Seq.{length-take-le}
use Rattle.std.proofs.lemmas.Result.{on_ok_weaker}
use Rattle.report.proofs.Unique.{output_within, output_prints}
use Rattle.list.proofs.list.Goals as goal

pub slice_bounds-bytes-end : goal.slice_bounds-bytes-end
slice_bounds-bytes-end g c = output_within c.report-length.ensures

pub slice_bounds-print-end : goal.slice_bounds-print-end
slice_bounds-print-end g c = sym (length-take-le _ _ (output_within c.report-length.ensures))

pub print-requires-clause-printed : goal.print-requires-clause-printed
print-requires-clause-printed g c = output_prints c.report-length.ensures

pub returns-clause-listed : goal.returns-clause-listed
returns-clause-listed g c =
    let r = c.in-Ok.ensures.read in
    let text = take c.in-Ok.reading.count c.read_input.new.room in
    let long = length-take-le _ _ r.within in
    on_ok_weaker c.print.result
    (λ w. record {
      text = text;
      bytes = take c.report-length.result.length c.report-length.result.bytes;
      whole = record { all = r.read; ended = λ (short : length text ≤ 4096). r.stopped (omega arith) };
      printed = output_prints c.report-length.ensures;
      written = w;
    })
    c.print.ensures.written
