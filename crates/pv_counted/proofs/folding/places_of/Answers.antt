use Rattle.std.proofs.Common.{◌+◌, List, ℕ, take, sym, subst}
use Rattle.pv_graph.specs.declared.node.Node.{Node}
use Rattle.pv_alike.specs.Keys.{Keyed}
use Rattle.pv_counted.specs.Folding.{ArePlaces}
use Rattle.pv_counted.proofs.Folds.{places_step}
use Rattle.pv_counted.proofs.folding.places_of.Goals as goal

pub loop-node-preserved : goal.loop-node-preserved
loop-node-preserved c =
    let put = subst (λ (x : Node). Keyed c.loop-node.kept c.number.new.self x c.in_ok-place.place) c.in_ok-copy.ensures c.in_ok-place.ensures in
    subst (λ (of : List ℕ). ArePlaces (take (c.loop-node.node-index + 1) c.args.nodes.now) of c.number.new.self) (sym c.in_ok-push.ensures.items)
    (places_step c.args.nodes.now c.loop-node.node-index c.loop-node.of.items c.loop-node.kept c.number.new.self c.node-item.result c.in_ok-place.place c.loop-node-test.true c.node-item.is c.loop-node.invariant put)
