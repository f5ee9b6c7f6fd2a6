use Rattle.pv_touched.specs.Far.{ListsNearBelow}
use Rattle.pv_touched.proofs.near.nodes_near.Given as goal

abbrev pub invariant-loop-n : goal.invariant-loop-n
invariant-loop-n l = ListsNearBelow l.n l.graph l.since l.kept l.near l.touched.items
