use Rattle.cases_graphs.proofs.Shapes.{AreWithin}
use Rattle.cases_graphs.proofs.loops.is_shape.Given as goal

abbrev pub invariant-loop-n : goal.invariant-loop-n
invariant-loop-n l = AreWithin l.shape l.n
