use Rattle.std.proofs.Common.{arith, sym, refl, true≢false}
use Rattle.std.proofs.lemmas.Option.{slice_get_within}
use Rattle.pv_graph.proofs.Tying.{tied_more}
use Rattle.pv_graph.proofs.graph.are_tied.Goals as goal

pub loop-node-preserved : goal.loop-node-preserved
loop-node-preserved c = tied_more c.args.nodes.now c.loop-node.node-index c.node-item.result c.loop-node-test.true c.node-item.is (λ open_. true≢false (sym (c.if-is_open.ensures.1 open_))) c.loop-node.invariant

pub returns : goal.returns
returns c = ((λ yes n node at open_. c.loop-node.invariant n node (let within = slice_get_within c.args.nodes.now n node at in omega arith) at open_), (λ tied. refl))
