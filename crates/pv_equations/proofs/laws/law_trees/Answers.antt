-- The law of trees.
use Rattle.pv_equations.proofs.Law.{trees_once}
use Rattle.pv_equations.proofs.laws.law_trees.Goals as goal

pub returns : goal.returns
returns c = trees_once
