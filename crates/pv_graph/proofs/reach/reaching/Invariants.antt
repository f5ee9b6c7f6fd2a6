use Rattle.std.proofs.Common.{length, ◌+◌}
use Rattle.pv_graph.specs.Reach.{unmarked}
use Rattle.pv_graph.proofs.Reaching.{IsFrontier}
use Rattle.pv_graph.proofs.reach.reaching.Given as goal

abbrev pub invariant-loop-k : goal.invariant-loop-k
invariant-loop-k l = IsFrontier l.nodes l.uses l.look l.starts l.marks.items l.work.items

abbrev pub decreases-loop-k : goal.decreases-loop-k
decreases-loop-k l = length l.work.items + unmarked l.marks.items
