use Rattle.std.proofs.Common.{◌≡◌, ◌+◌, true, false, length, None, refl, sym, ap, ◌∙◌, subst, ◌<◌, ◌^◌, ◌++◌, ◌∷◌, [], ℕ, List}
use Rattle.pv_graph.specs.declared.node.Node.{Node}
use Rattle.pv_graph.specs.declared.node.OpSort.{OpSort}
use Rattle.pv_graph.specs.Ops.{is_variable}
use Rattle.pv_graph.specs.Graphs.{Graph}
use Rattle.pv_graph.specs.Calls.{Added}
use Rattle.pv_graph.specs.Kept.{graph_of, IsKept}
use Rattle.pv_graph.proofs.Keeping.{same_parts, kept_same, kept_append, append_gives}
use Rattle.pv_graph.specs.Known.{AreKnown}
use Rattle.pv_graph.proofs.Knowing.{graph_shut, known_more}
use Rattle.pv_graph.proofs.graph.Graph.append.Goals as goal

pub invariant_of-self-in_err-insert : goal.invariant_of-self-in_err-insert
invariant_of-self-in_err-insert c = record {
  kept = kept_same _ _ c.self.inside.index.numbers c.insert.new.self.numbers c.self.inside.prepared c.self.invariant.kept
      (same_parts c.reserve.new.nodes.items c.self.inside.nodes.items c.reserve.new.sorts.items c.self.inside.sorts.items c.self.inside.is_open c.self.inside.base c.self.inside.prepared c.reserve.ensures.nodes c.reserve.ensures.sorts)
      c.in_err-insert.ensures.err;
  free = subst (λ (nodes : List Node). AreKnown nodes c.self.inside.known) (sym c.reserve.ensures.nodes) c.self.invariant.free;
}

module _ (c : goal.After-self-then-self-1) where
  abbrev after_then : Graph
  after_then = graph_of c.put.new.nodes.items c.put.new.sorts.items c.self.inside.is_open (c.len-n.result + 1) None

  number_then : c.len-n.result ≡ length c.self.inside.nodes.items
  number_then = c.len-n.ensures ∙ c.reserve.new.nodes.ok.0 ∙ ap (λ (xs : List Node). length xs) c.reserve.ensures.nodes

  nodes_then : c.put.new.nodes.items ≡ c.self.inside.nodes.items ++ c.args.node ∷ []
  nodes_then = c.put.ensures.nodes ∙ ap (λ (xs : List Node). xs ++ c.args.node ∷ []) c.reserve.ensures.nodes

  sorts_then : c.put.new.sorts.items ≡ c.self.inside.sorts.items ++ c.args.sort ∷ []
  sorts_then = c.put.ensures.sorts ∙ ap (λ (ss : List OpSort). ss ++ c.args.sort ∷ []) c.reserve.ensures.sorts

  kept_then : IsKept after_then c.insert.new.self.numbers None
  kept_then =
      let few : c.len-n.result + 1 < 2 ^ 32 = subst (λ (k : ℕ). k + 1 < 2 ^ 32) (sym c.len-n.ensures) c.in_ok-reserve.ensures.few in
      kept_append (graph_of c.self.inside.nodes.items c.self.inside.sorts.items c.self.inside.is_open c.self.inside.base c.self.inside.prepared) c.args.self.now after_then
      c.self.inside.index.numbers c.insert.new.self.numbers c.self.inside.prepared c.args.node c.in_ok-copy.copy c.args.sort c.len-n.result c.self.invariant.kept c.self.view_is
      c.requires.absent c.requires.tied c.requires.sorted c.requires.ranged (subst (λ (g : Graph). g.is_open ≡ false → is_variable c.args.node.op ≡ false) (sym c.self.view_is) c.requires.variables) number_then few c.in_ok-copy.ensures c.in_ok-insert.ensures.ok nodes_then sorts_then refl true c.if-self.true refl

  known_then : AreKnown c.put.new.nodes.items c.self.inside.known
  known_then =
      subst (λ (nodes : List Node). AreKnown nodes c.self.inside.known) (sym nodes_then)
      (known_more c.self.inside.nodes.items c.args.node (graph_shut (graph_of c.self.inside.nodes.items c.self.inside.sorts.items c.self.inside.is_open c.self.inside.base c.self.inside.prepared) c.self.invariant.kept.graph) c.self.inside.known c.self.invariant.free)

  added_then : Added c.args.self.now after_then c.args.node.op c.args.node.kids c.len-n.result
  added_then =
      append_gives (graph_of c.self.inside.nodes.items c.self.inside.sorts.items c.self.inside.is_open c.self.inside.base c.self.inside.prepared) c.args.self.now after_then c.args.node c.args.sort c.len-n.result c.self.view_is
      c.requires.absent c.requires.sorted number_then nodes_then sorts_then refl true c.if-self.true refl kept_then.graph

module _ (c : goal.Else-self) where
  abbrev after_else : Graph
  after_else = graph_of c.put.new.nodes.items c.put.new.sorts.items c.self.inside.is_open c.self.inside.base None

  number_else : c.len-n.result ≡ length c.self.inside.nodes.items
  number_else = c.len-n.ensures ∙ c.reserve.new.nodes.ok.0 ∙ ap (λ (xs : List Node). length xs) c.reserve.ensures.nodes

  nodes_else : c.put.new.nodes.items ≡ c.self.inside.nodes.items ++ c.args.node ∷ []
  nodes_else = c.put.ensures.nodes ∙ ap (λ (xs : List Node). xs ++ c.args.node ∷ []) c.reserve.ensures.nodes

  sorts_else : c.put.new.sorts.items ≡ c.self.inside.sorts.items ++ c.args.sort ∷ []
  sorts_else = c.put.ensures.sorts ∙ ap (λ (ss : List OpSort). ss ++ c.args.sort ∷ []) c.reserve.ensures.sorts

  kept_else : IsKept after_else c.insert.new.self.numbers None
  kept_else =
      let few : c.len-n.result + 1 < 2 ^ 32 = subst (λ (k : ℕ). k + 1 < 2 ^ 32) (sym c.len-n.ensures) c.in_ok-reserve.ensures.few in
      kept_append (graph_of c.self.inside.nodes.items c.self.inside.sorts.items c.self.inside.is_open c.self.inside.base c.self.inside.prepared) c.args.self.now after_else
      c.self.inside.index.numbers c.insert.new.self.numbers c.self.inside.prepared c.args.node c.in_ok-copy.copy c.args.sort c.len-n.result c.self.invariant.kept c.self.view_is
      c.requires.absent c.requires.tied c.requires.sorted c.requires.ranged (subst (λ (g : Graph). g.is_open ≡ false → is_variable c.args.node.op ≡ false) (sym c.self.view_is) c.requires.variables) number_else few c.in_ok-copy.ensures c.in_ok-insert.ensures.ok nodes_else sorts_else refl false c.if-self.false refl

  known_else : AreKnown c.put.new.nodes.items c.self.inside.known
  known_else =
      subst (λ (nodes : List Node). AreKnown nodes c.self.inside.known) (sym nodes_else)
      (known_more c.self.inside.nodes.items c.args.node (graph_shut (graph_of c.self.inside.nodes.items c.self.inside.sorts.items c.self.inside.is_open c.self.inside.base c.self.inside.prepared) c.self.invariant.kept.graph) c.self.inside.known c.self.invariant.free)

  added_else : Added c.args.self.now after_else c.args.node.op c.args.node.kids c.len-n.result
  added_else =
      append_gives (graph_of c.self.inside.nodes.items c.self.inside.sorts.items c.self.inside.is_open c.self.inside.base c.self.inside.prepared) c.args.self.now after_else c.args.node c.args.sort c.len-n.result c.self.view_is
      c.requires.absent c.requires.sorted number_else nodes_else sorts_else refl false c.if-self.false refl kept_else.graph

pub invariant_of-self-then-self : goal.invariant_of-self-then-self
invariant_of-self-then-self c = record { kept = kept_then c; free = known_then c }

pub invariant_of-self-else-self : goal.invariant_of-self-else-self
invariant_of-self-else-self c = record { kept = kept_else c; free = known_else c }

pub returns-then-self-clause-ok : goal.returns-then-self-clause-ok
returns-then-self-clause-ok c = added_then c

pub returns-else-self-clause-ok : goal.returns-else-self-clause-ok
returns-else-self-clause-ok c = added_else c
