use Rattle.std.proofs.Common.{ℕ, sym, subst}
use Rattle.pv_graph.specs.Graphs.{Graph}
use Rattle.pv_graph.specs.Calls.{IsBase}
use Rattle.pv_alike.specs.Least.{IsLeast, IsLeastOf}
use Rattle.pv_alike.proofs.Based.{least_distinct, least_cycles, least_sorts, least_of}
use Rattle.pv_alike.proofs.LeastLaws.{least_one, first_means, second_means}
use Rattle.pv_alike.proofs.alike.least.Goals as goal

pub based-requires-clause-distinct : goal.based-requires-clause-distinct
based-requires-clause-distinct c = least_distinct c.in_ok-found.ensures

pub based-requires-clause-cycles : goal.based-requires-clause-cycles
based-requires-clause-cycles c = least_cycles c.args.g.now c.args.first c.args.second c.in_ok-found.found.nodes.items c.in_ok-found.found.first c.in_ok-found.found.second c.requires.made c.in_ok-found.ensures

pub based-requires-clause-sorted : goal.based-requires-clause-sorted
based-requires-clause-sorted c = least_sorts c.args.g.now c.args.first c.args.second c.in_ok-found.found.nodes.items c.in_ok-found.found.first c.in_ok-found.found.second c.requires.made c.requires.sealed c.in_ok-found.ensures

pub returns : goal.returns
returns c =
    let h = c.in_ok-found.found.nodes.items in
    let l = c.new.result in
    let least : IsLeast c.args.g.now.nodes c.args.first c.args.second h l.first l.second =
    subst (λ (r : ℕ). IsLeast c.args.g.now.nodes c.args.first c.args.second h r l.second) (sym c.new.ensures.first)
    (subst (λ (s : ℕ). IsLeast c.args.g.now.nodes c.args.first c.args.second h c.in_ok-found.found.first s) (sym c.new.ensures.second) c.in_ok-found.ensures) in
    let base : IsBase l.graph h = subst (λ (graph : Graph). IsBase graph h) (sym c.new.ensures.graph) c.in_ok-graph.ensures in
    let is : IsLeastOf c.args.g.now c.args.first c.args.second l = least_of c.args.g.now c.args.first c.args.second h l c.requires.made least base in
    record { least = is; one = least_one is.least; first_means = first_means is.least; second_means = second_means is.least }
