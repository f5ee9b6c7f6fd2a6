use Rattle.std.proofs.Common.{◌≡◌, ◌<◌, false, length}
use Rattle.pv_graph.specs.Graphs.{IsWellMade}
use Rattle.pv_alike.proofs.Cited.{least_within}
use Rattle.cases_certs.proofs.Roots.{of_least}
use Rattle.cases_certs.proofs.sections.first_roots.Goals as goal

pub returns-clause-made : goal.returns-clause-made
returns-clause-made c = of_least (λ l. IsWellMade l.graph) (λ g a b l h. h.made) c.args.first.now c.args.second.now c.requires.method c.requires.partner c.least_roots.result c.least_roots.ensures

pub returns-clause-sealed : goal.returns-clause-sealed
returns-clause-sealed c = of_least (λ l. l.graph.is_open ≡ false) (λ g a b l h. h.sealed) c.args.first.now c.args.second.now c.requires.method c.requires.partner c.least_roots.result c.least_roots.ensures

pub returns-clause-first : goal.returns-clause-first
returns-clause-first c = of_least (λ l. l.first < length l.graph.nodes) (λ g a b l h. (least_within h.least).first) c.args.first.now c.args.second.now c.requires.method c.requires.partner c.least_roots.result c.least_roots.ensures

pub returns-clause-second : goal.returns-clause-second
returns-clause-second c = of_least (λ l. l.second < length l.graph.nodes) (λ g a b l h. (least_within h.least).second) c.args.first.now c.args.second.now c.requires.method c.requires.partner c.least_roots.result c.least_roots.ensures
