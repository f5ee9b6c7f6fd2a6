use Rattle.std.proofs.Common.{◌≡◌, ◌∙◌, List, subst}
use Rattle.pv_graph.specs.declared.node.Node.{Node}
use Rattle.pv_graph.specs.Index.{IsIndex}
use Rattle.pv_graph.proofs.Keeping.{copied}
use Rattle.pv_graph.proofs.Knowing.{known_none}
use Rattle.pv_graph.proofs.graph.Graph.copy.Goals as goal

pub invariant_of-result : goal.invariant_of-result
invariant_of-result c =
    let nodes_ : c.in_ok-copy_nodes.field-0.items ≡ c.self.inside.nodes.items = c.in_ok-copy_nodes.ensures ∙ c.deref.ensures.value in
    let sorts_ : c.in_ok-from_slice.field-0.items ≡ c.self.inside.sorts.items = c.in_ok-from_slice.ensures.items ∙ c.deref-2.ensures.value in
    record {
      kept = copied c.self.inside.nodes.items c.in_ok-copy_nodes.field-0.items c.self.inside.sorts.items c.in_ok-from_slice.field-0.items c.self.inside.is_open c.self.inside.base c.self.inside.prepared c.self.inside.index.numbers c.in_ok-index_of.field-0.numbers c.self.invariant.kept nodes_ sorts_
          (subst (λ (nodes : List Node). IsIndex nodes c.in_ok-index_of.field-0.numbers) c.deref-3.ensures.value c.in_ok-index_of.ensures);
      free = known_none c.in_ok-copy_nodes.field-0.items c.new.result c.new.ensures.marks c.new.ensures.shut;
    }
