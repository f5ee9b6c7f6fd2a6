use Rattle.cases_search.proofs.Known.{least_graph}
use Rattle.cases_search.proofs.nodes.least_of_nodes.Goals as goal

pub returns : goal.returns
returns c = least_graph c.in_ok-graph.graph c.in_ok-first.first c.in_ok-second.second c.in_ok-found.found c.in_ok-found.ensures.least
