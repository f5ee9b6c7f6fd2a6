use Rattle.std.proofs.Common.{List, length, sym, subst}
use Rattle.pv_graph.specs.declared.node.Node.{Node}
use Rattle.pv_graph.specs.Reach.{AllKidsWithin}
use Rattle.pv_graph.specs.Kept.{graph_of}
use Rattle.pv_graph.proofs.Marking.{all_within}
use Rattle.pv_graph.proofs.graph.Graph.prepare.Goals as goal

pub prepared_of-requires-clause-within : goal.prepared_of-requires-clause-within
prepared_of-requires-clause-within c =
    subst (λ (xs : List Node). AllKidsWithin xs (length xs)) (sym c.deref.ensures.value)
    (all_within (graph_of c.self.inside.nodes.items c.self.inside.sorts.items c.self.inside.is_open c.self.inside.base c.self.inside.prepared) c.self.invariant.kept.graph)
