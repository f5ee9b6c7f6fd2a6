use Rattle.pv_check.proofs.Concluding.{none_open}
use Rattle.pv_check.proofs.seen.Seen.is_outermost.Goals as goal

pub returns : goal.returns
returns c = none_open c.args.self.now.steps.now c.inside.result c.inside.ensures.number
