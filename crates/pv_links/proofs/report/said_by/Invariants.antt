use Rattle.std.proofs.Common.{take}
use Rattle.pv_report.specs.Listed.{AreLines}
use Rattle.pv_links.specs.Findings.{IsFinding, links}
use Rattle.pv_links.specs.Lines.{link_line}
use Rattle.pv_links.specs.Made.{lemmas_by}
use Rattle.pv_links.proofs.report.said_by.Given as goal

abbrev pub invariant-loop-section : goal.invariant-loop-section
invariant-loop-section g l = AreLines (IsFinding (lemmas_by l.rules) l.classes.first l.classes.middle l.classes.last) link_line (links (take l.section-index l.sections) l.others) l.findings.items l.text.items
