use Rattle.pv_classes.specs.Calls.{Knows}
use Rattle.cases_search.proofs.joined.join_pairs.Given as goal

abbrev pub invariant-loop-pair : goal.invariant-loop-pair
invariant-loop-pair l = Knows l.graph.nodes l.classes
