use Rattle.pv_pattern.proofs.laws.law_conditions.Goals as goal
use Rattle.pv_pattern.proofs.Endless.{refuted}

pub returns : goal.returns
returns c = refuted
