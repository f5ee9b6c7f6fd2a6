use Rattle.pv_counted.proofs.laws.law_cleared.Goals as goal
use Rattle.pv_counted.proofs.ClearedValues.{clearing_keeps, cleared_keeps}

pub returns : goal.returns
returns c = record { nodes = clearing_keeps; roots = cleared_keeps }
