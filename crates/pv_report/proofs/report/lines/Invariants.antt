use Rattle.std.proofs.Common.{◌≡◌, take}
use Rattle.std.specs.List.{flat_map}
use Rattle.pv_report.specs.Lines.{line_text}
use Rattle.pv_report.specs.Report.{lines_of}
use Rattle.pv_report.proofs.report.lines.Given as goal

abbrev pub invariant-loop-k : goal.invariant-loop-k
invariant-loop-k l = l.text.items ≡ flat_map line_text (lines_of (take l.k l.methods) (take l.k l.verdicts))
