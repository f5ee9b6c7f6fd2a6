use Rattle.std.proofs.Common.{take}
use Rattle.pv_links.specs.Ruled.{AreEquivalent}
use Rattle.pv_links.proofs.report.status_of.Given as goal

abbrev pub invariant-loop-finding : goal.invariant-loop-finding
invariant-loop-finding l = AreEquivalent (take l.finding-index l.findings)
