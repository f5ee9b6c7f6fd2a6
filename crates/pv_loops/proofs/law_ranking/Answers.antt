use Rattle.pv_loops.proofs.Forested.{ranking}
use Rattle.pv_loops.proofs.law_ranking.Goals as goal

pub returns : goal.returns
returns c = ranking
