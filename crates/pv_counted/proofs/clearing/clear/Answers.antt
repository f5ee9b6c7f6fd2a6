use Rattle.std.proofs.Common.{sym, subst}
use Rattle.std.proofs.lemmas.Result.{IfOk-weaker}
use Rattle.pv_graph.specs.Graphs.{IsGraph}
use Rattle.pv_counted.proofs.ClearedValues.{cleared_keeps}
use Rattle.pv_counted.proofs.ClearedLeast.{clearing_at, cleared_cycles, cleared_made, cleared_sorts, is_cleared}
use Rattle.pv_counted.proofs.clearing.clear.Goals as goal

pub cleared_nodes-requires : goal.cleared_nodes-requires
cleared_nodes-requires c = subst IsGraph (sym c.graph.ensures) c.requires.made.graph

pub based-requires-clause-cycles : goal.based-requires-clause-cycles
based-requires-clause-cycles c =
    let l = c.args.l.now in
    let counted = c.in_ok-counted.counted.items in
    let nodes = c.in_ok-nodes.nodes.items in
    let f = c.in_ok-f.f in
    let clearing = clearing_at c.graph.result.now l.graph c.deref.result.now counted nodes c.graph.ensures c.deref.ensures.value c.in_ok-nodes.ensures.clearing in
    cleared_cycles l counted nodes c.requires.made c.requires.sealed c.in_ok-counted.ensures.all clearing c.first.result c.second.result f.nodes.items f.first f.second c.in_ok-f.ensures.same

pub based-requires-clause-sorted : goal.based-requires-clause-sorted
based-requires-clause-sorted c =
    let l = c.args.l.now in
    let counted = c.in_ok-counted.counted.items in
    let nodes = c.in_ok-nodes.nodes.items in
    let f = c.in_ok-f.f in
    let clearing = clearing_at c.graph.result.now l.graph c.deref.result.now counted nodes c.graph.ensures c.deref.ensures.value c.in_ok-nodes.ensures.clearing in
    cleared_sorts l counted nodes c.requires.made c.requires.sealed c.in_ok-counted.ensures.all clearing c.first.result c.second.result f.nodes.items f.first f.second c.in_ok-f.ensures.same

pub least-requires-clause-made : goal.least-requires-clause-made
least-requires-clause-made c =
    let l = c.args.l.now in
    let counted = c.in_ok-counted.counted.items in
    let nodes = c.in_ok-nodes.nodes.items in
    let f = c.in_ok-f.f in
    let clearing = clearing_at c.graph.result.now l.graph c.deref.result.now counted nodes c.graph.ensures c.deref.ensures.value c.in_ok-nodes.ensures.clearing in
    cleared_made l counted nodes c.requires.made c.requires.sealed c.in_ok-counted.ensures.all clearing c.first.result c.second.result f.nodes.items f.first f.second c.in_ok-f.ensures.same c.in_ok-graph.graph c.in_ok-graph.ensures

pub returns-clause-cleared : goal.returns-clause-cleared
returns-clause-cleared c =
    let l = c.args.l.now in
    let counted = c.in_ok-counted.counted.items in
    let nodes = c.in_ok-nodes.nodes.items in
    let f = c.in_ok-f.f in
    let clearing = clearing_at c.graph.result.now l.graph c.deref.result.now counted nodes c.graph.ensures c.deref.ensures.value c.in_ok-nodes.ensures.clearing in
    IfOk-weaker c.least.result _ _
    (λ m q. is_cleared l counted nodes c.requires.made c.requires.sealed c.in_ok-counted.ensures.all clearing c.first.result c.second.result f.nodes.items f.first f.second c.first.ensures c.second.ensures c.in_ok-f.ensures.same c.in_ok-graph.graph m c.in_ok-graph.ensures q)
    c.least.ensures.least

pub returns-clause-keeps : goal.returns-clause-keeps
returns-clause-keeps c =
    let l = c.args.l.now in
    let counted = c.in_ok-counted.counted.items in
    let nodes = c.in_ok-nodes.nodes.items in
    let f = c.in_ok-f.f in
    let clearing = clearing_at c.graph.result.now l.graph c.deref.result.now counted nodes c.graph.ensures c.deref.ensures.value c.in_ok-nodes.ensures.clearing in
    IfOk-weaker c.least.result _ _
    (λ m q. cleared_keeps l m c.requires.made c.requires.sealed
    (is_cleared l counted nodes c.requires.made c.requires.sealed c.in_ok-counted.ensures.all clearing c.first.result c.second.result f.nodes.items f.first f.second c.first.ensures c.second.ensures c.in_ok-f.ensures.same c.in_ok-graph.graph m c.in_ok-graph.ensures q))
    c.least.ensures.least
