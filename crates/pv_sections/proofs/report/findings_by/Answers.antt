use Rattle.pv_report.proofs.Cited.{here_again, zip_next}
use Rattle.pv_sections.specs.Findings.{IsFinding}
use Rattle.pv_sections.proofs.report.findings_by.Goals as goal

pub loop-section-preserved : goal.loop-section-preserved
loop-section-preserved g c =
    let pair = c.args.pair.now in
    let s = c.section-item.result in
    let at = here_again c.args.sections.now c.loop-section.section-index s c.loop-section-test.true c.section-item.is in
    rw c.in_ok-push.ensures.items (zip_next (IsFinding c.args.rules.now.lemmas.now pair.first pair.second) c.args.sections.now c.loop-section.section-index c.loop-section.findings.items s c.in_ok-finding.finding at c.loop-section.invariant c.in_ok-finding.ensures)
