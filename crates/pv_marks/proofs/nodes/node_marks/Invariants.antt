use Rattle.pv_marks.specs.Sweep.{AreMarksBelow}
use Rattle.pv_marks.proofs.nodes.node_marks.Given as goal

abbrev pub invariant-loop-d : goal.invariant-loop-d
invariant-loop-d l = AreMarksBelow l.graph l.assumed l.d l.marks.items
