use Rattle.std.proofs.Common.{◌≡◌, take}
use Rattle.std.specs.List.{flat_map}
use Rattle.pv_report.specs.Lines.{line_text}
use Rattle.pv_report.specs.Listed.{lines_by}
use Rattle.pv_sections.specs.Lines.{section_line}
use Rattle.pv_sections.proofs.report.lines.Given as goal

abbrev pub invariant-loop-k : goal.invariant-loop-k
invariant-loop-k l = l.text.items ≡ flat_map line_text (lines_by section_line (take l.k l.sections) (take l.k l.findings))
