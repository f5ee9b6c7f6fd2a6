use Rattle.std.proofs.Common.{sym, ap, ◌∙◌, subst, arith}
use Rattle.std.proofs.lemmas.Option.{slice_get_within}
use Rattle.pv_graph.specs.declared.node.Op.{Op}
use Rattle.pv_graph.specs.declared.node.Node.{Node}
use Rattle.pv_graph.specs.Graphs.{Graph}
use Rattle.pv_graph.specs.Nodes.{node_of}
use Rattle.pv_graph.specs.Index.{number_in}
use Rattle.pv_graph.specs.Kept.{graph_of}
use Rattle.pv_graph.specs.Ops.{sort_over}
use Rattle.pv_graph.specs.Calls.{MayAdd, Added}
use Rattle.pv_graph.proofs.Keeping.{there_added, none_fits}
use Rattle.pv_graph.proofs.graph.Graph.add.Goals as goal

pub returns-in-Some-clause-ok : goal.returns-in-Some-clause-ok
returns-in-Some-clause-ok c =
    subst (λ (g : Graph). Added g g c.args.op c.args.kids.now c.in-Some.n) c.self.view_is
    (there_added (graph_of c.self.inside.nodes.items c.self.inside.sorts.items c.self.inside.is_open c.self.inside.base c.self.inside.prepared) c.self.inside.index.numbers c.self.inside.prepared c.args.op c.args.kids.now c.in-Some.n c.self.invariant.kept
    (subst (λ (g : Graph). MayAdd g c.args.op) (sym c.self.view_is) c.requires.theta)
    (ap (number_in c.self.inside.index.numbers) (sym c.in_ok-node.ensures) ∙ sym c.in-Some.ensures))

pub returns-in-Some-clause-few : goal.returns-in-Some-clause-few
returns-in-Some-clause-few c =
    let number = ap (number_in c.self.inside.index.numbers) (sym c.in_ok-node.ensures) ∙ sym c.in-Some.ensures in
    let first = c.self.invariant.kept.index.first (node_of c.args.op c.args.kids.now) c.in-Some.n number in
    let low = slice_get_within c.self.inside.nodes.items c.in-Some.n (node_of c.args.op c.args.kids.now) first.there in
    let few = c.self.invariant.kept.few in
    omega (arith, low, few)

pub returns-in_default-2-clause-sort : goal.returns-in_default-2-clause-sort
returns-in_default-2-clause-sort c e fits =
    none_fits (graph_of c.self.inside.nodes.items c.self.inside.sorts.items c.self.inside.is_open c.self.inside.base c.self.inside.prepared) c.args.self.now c.args.op c.args.kids.now c.in_ok-sorts.sorts.items c.self.view_is c.in_ok-sorts.ensures
    (ap (λ (o : Op). sort_over o c.in_ok-sorts.sorts.items) (sym (ap (λ (x : Node). x.op) c.in_ok-node.ensures)) ∙ ap (sort_over c.in_ok-node.node.op) (sym c.deref.ensures.value) ∙ sym c.in_ok-sort.ensures ∙ c.in_default-2.is)
    fits

pub returns-clause-ok : goal.returns-clause-ok
returns-clause-ok c = subst (λ (x : Node). Added c.args.self.now c.append.new.self x.op x.kids c.in_ok-append.field-0) c.in_ok-node.ensures c.in_ok-append.ensures.ok
