use Rattle.pv_chain.proofs.LineSteps.{some_body}
use Rattle.pv_chain.proofs.lines.is_ended.Goals as goal

pub returns : goal.returns
returns c = some_body c.args.text.now c.body_of.result c.is_some.result c.body_of.ensures c.is_some.ensures
