use Rattle.std.proofs.Common.{◌-◌}
use Rattle.pv_lemmas.proofs.Asking.{AreSought}
use Rattle.pv_lemmas.proofs.under.Standing.are_sides.Given as goal

abbrev pub invariant-loop-k : goal.invariant-loop-k
invariant-loop-k l = AreSought l.self.inner.now l.self.nodes.now l.self.graph.now l.fn.sides l.fn.at l.asked.items (l.len - l.k)
