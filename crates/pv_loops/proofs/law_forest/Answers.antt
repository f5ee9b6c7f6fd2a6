use Rattle.pv_loops.proofs.Unique.{one_forest}
use Rattle.pv_loops.proofs.law_forest.Goals as goal

pub returns : goal.returns
returns c = one_forest
