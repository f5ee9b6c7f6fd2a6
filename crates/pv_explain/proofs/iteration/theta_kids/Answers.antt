use Rattle.std.proofs.Common.{◌∷◌, [], refl}
use Rattle.std.proofs.lemmas.Option.{slice_get_within}
use Rattle.pv_graph.specs.declared.node.Op.TheVariants as op
use Rattle.pv_graph.specs.Nodes.{node_of}
use Rattle.pv_explain.proofs.Iterating.{theta_kids_are, two_read, two_same}
use Rattle.pv_explain.proofs.iteration.theta_kids.Goals as goal

pub node-requires : goal.node-requires
node-requires c = let t = c.requires.1 in slice_get_within c.args.graph.now.nodes c.args.n (node_of (op.Theta c.requires.0) (t.0 ∷ t.1 ∷ [])) t.2

pub bounds-kids-0 : goal.bounds-kids-0
bounds-kids-0 c = let t = c.requires.1 in (two_read c.as_slice-kids.result.now t.0 t.1 (theta_kids_are c.args.graph.now.nodes c.args.n c.requires.0 t.0 t.1 c.node.result.now c.as_slice-kids.result.now t.2 c.node.ensures c.as_slice-kids.ensures)).0

pub bounds-kids-1 : goal.bounds-kids-1
bounds-kids-1 c = let t = c.requires.1 in (two_read c.as_slice-kids.result.now t.0 t.1 (theta_kids_are c.args.graph.now.nodes c.args.n c.requires.0 t.0 t.1 c.node.result.now c.as_slice-kids.result.now t.2 c.node.ensures c.as_slice-kids.ensures)).1

pub returns : goal.returns
returns c = λ node at.
    let t = c.requires.1 in
    let e = theta_kids_are c.args.graph.now.nodes c.args.n c.requires.0 t.0 t.1 c.node.result.now c.as_slice-kids.result.now t.2 c.node.ensures c.as_slice-kids.ensures in
    let all = theta_kids_are c.args.graph.now.nodes c.args.n c.requires.0 t.0 t.1 node node.kids t.2 at refl in
    two_same node.kids c.as_slice-kids.result.now t.0 t.1 0 all e
