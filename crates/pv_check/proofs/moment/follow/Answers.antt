use Rattle.pv_check.proofs.Moments.{stays}
use Rattle.pv_check.proofs.moment.follow.Goals as goal

pub returns-in_default : goal.returns-in_default
returns-in_default c = record { yes = stays c.args.step.now c.in_default.not-Node c.args.graph.now; no = tt }
