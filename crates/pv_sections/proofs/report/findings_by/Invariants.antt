use Rattle.std.proofs.Common.{take}
use Rattle.std.specs.List.{AllZip}
use Rattle.pv_sections.specs.Findings.{IsFinding}
use Rattle.pv_sections.proofs.report.findings_by.Given as goal

abbrev pub invariant-loop-section : goal.invariant-loop-section
invariant-loop-section g l = AllZip (IsFinding l.rules.lemmas.now l.pair.first l.pair.second) (take l.section-index l.sections) l.findings.items
