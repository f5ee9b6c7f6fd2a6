use Rattle.pv_differences.proofs.RefutedOnce.{refuted_once}
use Rattle.pv_differences.proofs.laws.law_refuted.Goals as goal

pub returns : goal.returns
returns c = refuted_once
