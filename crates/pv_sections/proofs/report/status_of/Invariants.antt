use Rattle.std.proofs.Common.{take}
use Rattle.std.specs.List.{AllByRecursion}
use Rattle.pv_sections.specs.Ruled.{SaysEquivalent}
use Rattle.pv_sections.proofs.report.status_of.Given as goal

abbrev pub invariant-loop-finding : goal.invariant-loop-finding
invariant-loop-finding l = AllByRecursion SaysEquivalent (take l.finding-index l.findings)
