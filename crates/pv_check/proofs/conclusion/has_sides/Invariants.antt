use Rattle.std.proofs.Common.{◌↔◌, drop}
use Rattle.pv_graph.specs.Walks.{In}
use Rattle.pv_steps.specs.Steps.{both_sides}
use Rattle.pv_check.proofs.conclusion.has_sides.Given as goal

abbrev pub invariant-loop-congruence : goal.invariant-loop-congruence
invariant-loop-congruence l = In (both_sides l.congruences) (l.a, l.b) ↔ In (both_sides (drop l.congruence-index l.congruences)) (l.a, l.b)
