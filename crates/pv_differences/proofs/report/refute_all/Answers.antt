use Rattle.pv_report.proofs.Cited.{zip_length}
use Rattle.pv_differences.specs.Findings.{IsFinding}
use Rattle.pv_differences.proofs.Refuting.{bad_file, refutes}
use Rattle.pv_differences.proofs.report.refute_all.Goals as goal

pub returns-in-Err : goal.returns-in-Err
returns-in-Err c =
    let said = c.in_ok-bad_class-in-Err.field-0 in
    bad_file c.args.limits c.args.first.now c.args.second.now c.in-Err.bad said.text.items said.status (rw c.in-Err.is at c.in_ok-pair.ensures.reads) c.in_ok-bad_class-in-Err.ensures.text c.in_ok-bad_class-in-Err.ensures.status

pub lines-requires : goal.lines-requires
lines-requires c = rw (c.deref.ensures.value, c.as_slice.ensures) (zip_length (IsFinding c.args.limits c.in-Ok.pair.first c.in-Ok.pair.second) c.in-Ok.pair.first.methods c.in_ok-findings.findings.items c.in_ok-findings.ensures)

pub returns : goal.returns
returns c =
    refutes c.args.limits c.args.first.now c.args.second.now c.in-Ok.pair c.in_ok-findings.findings.items c.in_ok-text.text.items c.status_of-status.result (rw c.in-Ok.is at c.in_ok-pair.ensures.reads) c.in_ok-findings.ensures
    (rw (c.deref.ensures.value, c.as_slice.ensures) at c.in_ok-text.ensures) (rw c.deref-2.ensures.value at c.status_of-status.ensures)
