use Rattle.pv_value.proofs.Fitting.{worlds_kept}
use Rattle.pv_value.proofs.laws.law_worlds.Goals as goal

pub returns : goal.returns
returns c = worlds_kept
