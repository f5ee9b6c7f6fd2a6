use Rattle.pv_alike.proofs.laws.law_same_least.Goals as goal
use Rattle.pv_alike.proofs.SameLeast.{same_least, same_least_nodes}

pub returns : goal.returns
returns c = record { nodes = same_least_nodes; whole = same_least }
