use Rattle.pv_live.proofs.ListLaws.{needed_agree, needed_once}
use Rattle.pv_live.proofs.laws.law_needed.Goals as goal

pub returns-clause-agree : goal.returns-clause-agree
returns-clause-agree c = needed_agree

pub returns-clause-once : goal.returns-clause-once
returns-clause-once c = needed_once
