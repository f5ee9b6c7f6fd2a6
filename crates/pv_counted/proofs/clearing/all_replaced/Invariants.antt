use Rattle.pv_counted.specs.Replaced.{AreReplaced}
use Rattle.pv_counted.proofs.clearing.all_replaced.Given as goal

abbrev pub invariant-loop-n : goal.invariant-loop-n
invariant-loop-n l = AreReplaced l.g l.marks l.n l.nodes.items
