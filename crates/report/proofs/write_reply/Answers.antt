-- `report::write_reply` meets its contract: what the text says is reported, or its refusal. Assumes nothing.
use Rattle.report.proofs.Outputs.{whole_fits, accepts, reports, reports_refusal}
use Rattle.report.proofs.write_reply.Goals as goal

pub write_report-requires-clause-valid : goal.write_report-requires-clause-valid
write_report-requires-clause-valid c = accepts c.in-Ok.ensures

pub write_report-requires-clause-fits : goal.write_report-requires-clause-fits
write_report-requires-clause-fits c = whole_fits c.requires (accepts c.in-Ok.ensures)

pub returns-in-Ok : goal.returns-in-Ok
returns-in-Ok c = reports c.in-Ok.ensures c.write_report.ensures

pub returns-in-Err : goal.returns-in-Err
returns-in-Err c = reports_refusal c.in-Err.ensures c.write_refusal.ensures
