use Rattle.std.proofs.Common.{◌≡◌, ◌+◌, ◌<◌, ◌^◌, ℕ, List, [], ◌∷◌, ◌++◌, true, length, None, refl, sym, ap, ◌∙◌, subst}
use Rattle.pv_graph.specs.declared.node.Node.{Node}
use Rattle.pv_graph.specs.declared.node.OpSort.{OpSort}
use Rattle.pv_graph.specs.Graphs.{Graph}
use Rattle.pv_graph.specs.Calls.{Begun}
use Rattle.pv_graph.specs.Kept.{graph_of, IsKept}
use Rattle.pv_graph.proofs.Tying.{kept_begun, begun}
use Rattle.pv_graph.specs.Known.{AreKnown}
use Rattle.pv_graph.proofs.Knowing.{graph_shut, known_more, known_noted}
use Rattle.pv_graph.proofs.graph.Graph.theta.Goals as goal

module _ (c : goal.After-self-2-1) where
  abbrev before : Graph
  before = graph_of c.self.inside.nodes.items c.self.inside.sorts.items c.self.inside.is_open c.self.inside.base c.self.inside.prepared

  abbrev after : Graph
  after = graph_of c.put.new.nodes.items c.put.new.sorts.items c.self.inside.is_open (c.len-n.result + 1) None

  number : c.len-n.result ≡ length c.self.inside.nodes.items
  number = c.len-n.ensures ∙ c.reserve.new.nodes.ok.0 ∙ ap (λ (xs : List Node). length xs) c.reserve.ensures.nodes

  few : length c.self.inside.nodes.items + 1 < 2 ^ 32
  few = subst (λ (k : ℕ). k + 1 < 2 ^ 32) (sym c.len-n.ensures ∙ number) c.in_ok-reserve.ensures.few

  nodes_ : c.put.new.nodes.items ≡ c.self.inside.nodes.items ++ c.in_ok-node.node ∷ []
  nodes_ = c.put.ensures.nodes ∙ ap (λ (xs : List Node). xs ++ c.in_ok-node.node ∷ []) c.reserve.ensures.nodes

  sorts_ : c.put.new.sorts.items ≡ c.self.inside.sorts.items ++ c.args.sort ∷ []
  sorts_ = c.put.ensures.sorts ∙ ap (λ (ss : List OpSort). ss ++ c.args.sort ∷ []) c.reserve.ensures.sorts

  open_ : before.is_open ≡ true
  open_ = ap (λ (g : Graph). g.is_open) c.self.view_is ∙ c.requires.open

  kept : IsKept after c.self.inside.index.numbers None
  kept =
      kept_begun before after c.self.inside.index.numbers c.self.inside.prepared c.in_ok-node.node c.args.d c.args.sort c.self.invariant.kept open_ c.requires.depth c.requires.sort c.in_ok-node.ensures few nodes_ sorts_ refl
      (ap (λ (k : ℕ). k + 1) number)

  free : AreKnown c.put.new.nodes.items c.begin.new.self
  free =
      let before_ = graph_shut before c.self.invariant.kept.graph in
      subst (λ (nodes : List Node). AreKnown nodes c.begin.new.self) (sym nodes_)
      (known_more c.self.inside.nodes.items c.in_ok-node.node before_ c.begin.new.self
      (known_noted c.self.inside.nodes.items c.self.inside.known c.begin.new.self c.len-n.result number before_ c.self.invariant.free c.begin.ensures.marks c.in_ok-begin.ensures.ok))

  gives : Begun c.args.self.now after c.args.d c.args.sort c.len-n.result
  gives =
      subst (λ (g : Graph). Begun g after c.args.d c.args.sort c.len-n.result) c.self.view_is
      (subst (λ (k : ℕ). Begun before after c.args.d c.args.sort k) (sym number)
      (begun before after c.self.inside.index.numbers c.self.inside.prepared c.in_ok-node.node c.args.d c.args.sort c.self.invariant.kept open_ c.requires.depth c.requires.sort c.in_ok-node.ensures few nodes_ sorts_ refl
      (ap (λ (k : ℕ). k + 1) number)))

pub invariant_of-self-2 : goal.invariant_of-self-2
invariant_of-self-2 c = record { kept = kept c; free = free c }

pub returns-clause-ok : goal.returns-clause-ok
returns-clause-ok c = gives c
