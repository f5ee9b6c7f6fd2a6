use Rattle.std.proofs.Common.{◌≡◌, take}
use Rattle.std.specs.List.{flat_map}
use Rattle.pv_report.specs.Lines.{line_text}
use Rattle.pv_report.specs.Listed.{lines_by}
use Rattle.pv_differences.specs.Lines.{line_of}
use Rattle.pv_differences.proofs.report.lines.Given as goal

abbrev pub invariant-loop-k : goal.invariant-loop-k
invariant-loop-k l = l.text.items ≡ flat_map line_text (lines_by line_of (take l.k l.methods) (take l.k l.findings))
