use Rattle.pv_flow.proofs.Flows.{straight, untargeted}
use Rattle.pv_flow.proofs.laws.law_blocks.Goals as goal

pub returns-clause-straight : goal.returns-clause-straight
returns-clause-straight c = straight

pub returns-clause-untargeted : goal.returns-clause-untargeted
returns-clause-untargeted c = untargeted
