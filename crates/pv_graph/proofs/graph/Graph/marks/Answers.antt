use Rattle.std.proofs.Common.{◌∙◌, ◌+◌, Bool, List, length, sym, subst}
use Rattle.pv_graph.specs.declared.node.Node.{Node}
use Rattle.pv_graph.specs.Reach.{Uses, AreUses, AllKidsWithin}
use Rattle.pv_graph.specs.Kept.{graph_of}
use Rattle.pv_graph.proofs.Reaching.{uses_all}
use Rattle.pv_graph.proofs.Marking.{all_from_0}
use Rattle.pv_graph.proofs.graph.Graph.marks.Goals as goal

pub uses_of-requires-clause-within : goal.uses_of-requires-clause-within
uses_of-requires-clause-within c =
    subst (λ (xs : List Node). AllKidsWithin xs (0 + length xs)) (sym c.deref.ensures.value)
    (all_from_0 (graph_of c.self.inside.nodes.items c.self.inside.sorts.items c.self.inside.is_open c.self.inside.base c.self.inside.prepared) c.self.invariant.kept.graph)

pub marks_of-requires-clause-uses : goal.marks_of-requires-clause-uses
marks_of-requires-clause-uses c =
    subst (λ (uses : Uses). AreUses c.deref-3.result.now c.deref-4.result.now uses) (sym c.deref-5.ensures.value)
    (subst (λ (out : List Bool). AreUses c.deref-3.result.now out c.in_ok-uses.uses.items) (c.deref-2.ensures.value ∙ sym c.deref-4.ensures.value)
    (subst (λ (nodes : List Node). AreUses nodes c.deref-2.result.now c.in_ok-uses.uses.items) (c.deref.ensures.value ∙ sym c.deref-3.ensures.value) (uses_all c.deref.result.now c.deref-2.result.now c.in_ok-uses.uses.items c.in_ok-uses.ensures.uses)))
