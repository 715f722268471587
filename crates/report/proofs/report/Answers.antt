-- `report::report` meets its contract: what is written on a blank page is the output. Assumes nothing.
use Rattle.std.proofs.Common.{◌∙◌, rules}
use Rattle.report.specs.Inner.{Blank}
use Rattle.report.proofs.Outputs.{page_prints}
use Rattle.report.proofs.report.Goals as goal

pub returns : goal.returns
returns c =
    let page = c.new-page.ensures in
    let blank : Blank c.new-page.result = record { begins = page.nothing.1; blank = page.nothing.0 ∙ c.blank-bytes.ensures } in
    let same = c.write_reply.ensures.writes.same_room ∙ page.same_room in
    page_prints blank c.write_reply.ensures (search rules)
