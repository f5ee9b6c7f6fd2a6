use Rattle.std.proofs.Common.{sym, ap, subst}
use Rattle.pv_graph.specs.Graphs.{Graph, IsWellMade}
use Rattle.pv_graph.proofs.Cited.{empty_made}
use Rattle.pv_alike.proofs.Cited.{least_within}
use Rattle.cases_search.proofs.Known.{least_graph}
use Rattle.cases_search.proofs.methods.least_of_methods.Goals as goal

pub add_root-requires-clause-made : goal.add_root-requires-clause-made
add_root-requires-clause-made c = subst IsWellMade (sym c.new-graph.ensures) empty_made

pub add_root-requires-clause-open : goal.add_root-requires-clause-open
add_root-requires-clause-open c = ap (λ (g : Graph). g.is_open) c.new-graph.ensures

pub returns-clause-least : goal.returns-clause-least
returns-clause-least c = least_graph c.seal.new.self c.in_ok-one.one c.in_ok-two.two c.in_ok-found.found c.in_ok-found.ensures.least

pub returns-clause-roots : goal.returns-clause-roots
returns-clause-roots c = let w = least_within c.in_ok-found.ensures.least.least in record { first = w.first; second = w.second }
