use Rattle.pv_induct.specs.Thetas.{AreThose}
use Rattle.pv_induct.proofs.theta.thetas_of_depth.Given as goal

abbrev pub invariant-loop-t : goal.invariant-loop-t
invariant-loop-t l = AreThose l.t-index l.all l.depth l.found.items
