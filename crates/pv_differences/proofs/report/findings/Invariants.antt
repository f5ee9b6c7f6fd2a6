use Rattle.std.proofs.Common.{take}
use Rattle.std.specs.List.{AllZip}
use Rattle.pv_differences.specs.Findings.{IsFinding}
use Rattle.pv_differences.proofs.report.findings.Given as goal

abbrev pub invariant-loop-place : goal.invariant-loop-place
invariant-loop-place l = AllZip (IsFinding l.limits l.pair.first l.pair.second) (take l.place l.pair.first.methods) l.findings.items
