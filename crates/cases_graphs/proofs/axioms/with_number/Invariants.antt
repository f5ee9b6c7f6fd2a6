use Rattle.std.proofs.Common.{map, drop}
use Rattle.std.specs.List.{AllByRecursion}
use Rattle.pv_pattern.specs.Binding.{BindsItsNames}
use Rattle.pv_pattern.specs.Seen.{axiom_seen}
use Rattle.cases_graphs.proofs.axioms.with_number.Given as goal

abbrev pub invariant-loop-rule : goal.invariant-loop-rule
invariant-loop-rule l = AllByRecursion BindsItsNames (map axiom_seen (drop l.rule-index l.table))
