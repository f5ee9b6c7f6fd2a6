use Rattle.pv_sections.specs.Findings.{IsFinding}
use Rattle.pv_report.proofs.Cited.{zip_length}
use Rattle.pv_sections.proofs.Rulings.{bad_file, bad_names, bad_text, rules_all}
use Rattle.pv_sections.proofs.report.rule.Goals as goal

pub returns-in-Err : goal.returns-in-Err
returns-in-Err g c =
    let said = c.in_ok-bad_class-in-Err.field-0 in
    bad_file c.args.first.now c.args.second.now c.args.cert.now c.in-Err.bad said.text.items said.status (rw c.in-Err.is at c.in_ok-pair.ensures.reads) c.in_ok-bad_class-in-Err.ensures.text c.in_ok-bad_class-in-Err.ensures.status

pub returns-in-Err-2 : goal.returns-in-Err-2
returns-in-Err-2 g c =
    let said = c.in_ok-bad_certificate-in-Err-2.field-0 in
    bad_text c.args.first.now c.args.second.now c.args.cert.now c.in-Ok.pair c.in-Err-2.flaw said.text.items said.status (rw c.in-Ok.is at c.in_ok-pair.ensures.reads) (rw c.in-Err-2.is at c.in_ok-cert.ensures) c.in_ok-bad_certificate-in-Err-2.ensures.text
    c.in_ok-bad_certificate-in-Err-2.ensures.status

pub returns-in-Some : goal.returns-in-Some
returns-in-Some g c =
    let said = c.in_ok-bad_certificate.field-0 in
    bad_names c.args.first.now c.args.second.now c.args.cert.now c.in-Ok.pair c.in-Ok-2.cert c.in-Some.flaw c.digest_of.result c.digest_of-2.result said.text.items said.status (rw c.in-Ok.is at c.in_ok-pair.ensures.reads) (rw c.in-Ok-2.is at c.in_ok-cert.ensures) c.digest_of.ensures
    c.digest_of-2.ensures (rw c.in-Some.is at c.other_file.ensures) c.in_ok-bad_certificate.ensures.text c.in_ok-bad_certificate.ensures.status

pub lines-requires : goal.lines-requires
lines-requires g c =
    let cert = c.in-Ok-2.cert in
    rw (c.deref.ensures.value, c.as_slice.ensures) (zip_length (IsFinding cert.lemmas c.in-Ok.pair.first c.in-Ok.pair.second) cert.sections c.in_ok-findings.findings.items c.in_ok-findings.ensures)

pub returns : goal.returns
returns g c =
    rules_all c.args.first.now c.args.second.now c.args.cert.now c.in-Ok.pair c.in-Ok-2.cert c.digest_of.result c.digest_of-2.result c.in_ok-findings.findings.items c.in_ok-text.text.items c.status_of-status.result (rw c.in-Ok.is at c.in_ok-pair.ensures.reads)
    (rw c.in-Ok-2.is at c.in_ok-cert.ensures) c.digest_of.ensures c.digest_of-2.ensures (rw c.in_default.is at c.other_file.ensures) c.in_ok-findings.ensures (rw (c.deref.ensures.value, c.as_slice.ensures) at c.in_ok-text.ensures)
    (rw c.deref-2.ensures.value at c.status_of-status.ensures)
