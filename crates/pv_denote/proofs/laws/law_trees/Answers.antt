use Rattle.pv_denote.proofs.laws.law_trees.Goals as goal
use Rattle.pv_denote.proofs.TreeMeans.{trees_mean}

pub returns : goal.returns
returns c = trees_mean
