use Rattle.pv_links.proofs.report.report_on.Goals as goal

pub returns : goal.returns
returns g c = record {
  middle = c.in_ok-middle_of.field-0;
  middle_is = c.in_ok-middle_of.ensures;
  findings = c.in_ok-said.said.findings.items;
  lines = c.in_ok-said.ensures;
  status_is = rw c.deref.ensures.value at c.status_of-status.ensures;
}
