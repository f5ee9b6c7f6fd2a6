use Rattle.std.proofs.Common.{◌↔◌, drop}
use Rattle.pv_graph.specs.Walks.{In}
use Rattle.pv_check.proofs.conclusion.has_pair.Given as goal

abbrev pub invariant-loop-pair : goal.invariant-loop-pair
invariant-loop-pair l = In l.pairs (l.a, l.b) ↔ In (drop l.pair-index l.pairs) (l.a, l.b)
