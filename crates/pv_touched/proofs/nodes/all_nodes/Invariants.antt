use Rattle.std.proofs.Common.{ℕ, ◌<◌}
use Rattle.pv_graph.specs.Walks.{In}
use Rattle.pv_touched.proofs.nodes.all_nodes.Given as goal

abbrev pub invariant-loop-n : goal.invariant-loop-n
invariant-loop-n l = (k : ℕ) → k < l.n → In l.all.items k
