use Rattle.pv_counted.proofs.laws.law_once.Goals as goal
use Rattle.pv_counted.proofs.ClearedOnce.{cleared_once}

pub returns : goal.returns
returns c = cleared_once
