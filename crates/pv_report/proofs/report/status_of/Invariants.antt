use Rattle.std.proofs.Common.{take}
use Rattle.pv_report.specs.Report.{AreEquivalent}
use Rattle.pv_report.proofs.report.status_of.Given as goal

abbrev pub invariant-loop-verdict : goal.invariant-loop-verdict
invariant-loop-verdict l = AreEquivalent (take l.verdict-index l.verdicts)
