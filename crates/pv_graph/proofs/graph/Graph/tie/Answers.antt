use Rattle.std.proofs.Common.{false, ◌≡◌, ◌<◌, ℕ, [], ◌∷◌, Some, None, length, slice_get, slice_set, refl, sym, ap, ◌∙◌, subst}
use Rattle.std.proofs.lemmas.Option.{slice_get_within, slice_get_read}
use Rattle.pv_graph.specs.declared.node.Op.TheVariants as op
use Rattle.pv_graph.specs.declared.node.Node.{Node}
use Rattle.pv_graph.specs.Graphs.{Graph}
use Rattle.pv_graph.specs.Nodes.{node_of}
use Rattle.pv_graph.specs.Index.{least_of, number_in, Renumbers}
use Rattle.pv_graph.specs.Calls.{HaveItsSort, Tied}
use Rattle.pv_graph.specs.Kept.{graph_of, IsKept}
use Rattle.pv_graph.proofs.Keeping.{kept_same}
use Rattle.pv_graph.proofs.Tying.{kept_tied, tied}
use Rattle.pv_graph.proofs.Knowing.{known_tied}
use Rattle.pv_graph.proofs.graph.Graph.tie.Goals as goal

pub invariant_of-self : goal.invariant_of-self
invariant_of-self c = record {
  kept = kept_same _ _ c.self.inside.index.numbers c.insert.new.self.numbers c.self.inside.prepared c.self.invariant.kept refl c.in_err-insert.ensures.err;
  free = c.self.invariant.free;
}

pub index_mut-requires : goal.index_mut-requires
index_mut-requires c =
    let at : slice_get c.self.inside.nodes.items c.args.n ≡ Some (node_of (op.Theta c.requires.open.0) []) = ap (λ (g : Graph). slice_get g.nodes c.args.n) c.self.view_is ∙ c.requires.open.1 in
    subst (λ (k : ℕ). c.args.n < k) (sym c.self.inside.nodes.ok.0) (slice_get_within c.self.inside.nodes.items c.args.n (node_of (op.Theta c.requires.open.0) []) at)

module _ (c : goal.Joined-self) where
  abbrev before : Graph
  before = graph_of c.self.inside.nodes.items c.self.inside.sorts.items c.self.inside.is_open c.self.inside.base c.self.inside.prepared

  abbrev tied_to : Node
  tied_to = node_of (op.Theta c.depth_of-d.result) (c.args.first ∷ c.args.second ∷ [])

  within : c.args.n < length c.self.inside.nodes.items
  within =
      let at : slice_get c.self.inside.nodes.items c.args.n ≡ Some (node_of (op.Theta c.requires.open.0) []) = ap (λ (g : Graph). slice_get g.nodes c.args.n) c.self.view_is ∙ c.requires.open.1 in
      slice_get_within c.self.inside.nodes.items c.args.n (node_of (op.Theta c.requires.open.0) []) at

  at : slice_get c.self.inside.nodes.items c.args.n ≡ Some (node_of (op.Theta c.depth_of-d.result) [])
  at = slice_get_read c.self.inside.nodes.items (length c.self.inside.nodes.items) c.args.n c.index.result.now refl within c.index.ensures ∙ ap Some c.depth_of-d.ensures

  fits : HaveItsSort before c.args.n c.args.first c.args.second
  fits = c.if-not-have_its_sort.ensures.0 refl

  by : Renumbers c.self.inside.index.numbers c.insert.new.self.numbers tied_to (least_of (number_in c.self.inside.index.numbers tied_to) c.args.n)
  by =
      let same : c.in_ok-copy.copy ≡ tied_to = c.in_ok-copy.ensures ∙ c.in_ok-node.ensures in
      let least : c.least-least.result ≡ least_of (number_in c.self.inside.index.numbers tied_to) c.args.n = c.least-least.ensures ∙ ap (λ (x : Node). least_of (number_in c.self.inside.index.numbers x) c.args.n) c.in_ok-node.ensures in
      subst (λ (x : Node). Renumbers c.self.inside.index.numbers c.insert.new.self.numbers x (least_of (number_in c.self.inside.index.numbers tied_to) c.args.n)) same
      (subst (λ (k : ℕ). Renumbers c.self.inside.index.numbers c.insert.new.self.numbers c.in_ok-copy.copy k) least c.in_ok-insert.ensures.ok)

  kept : IsKept (graph_of (slice_set c.self.inside.nodes.items c.args.n c.in_ok-node.node) c.self.inside.sorts.items c.self.inside.is_open c.self.inside.base None) c.insert.new.self.numbers None
  kept =
      subst (λ (x : Node). IsKept (graph_of (slice_set c.self.inside.nodes.items c.args.n x) c.self.inside.sorts.items c.self.inside.is_open c.self.inside.base None) c.insert.new.self.numbers None) (sym c.in_ok-node.ensures)
      (kept_tied before c.self.inside.index.numbers c.insert.new.self.numbers c.self.inside.prepared c.args.n c.depth_of-d.result c.args.first c.args.second c.self.invariant.kept at fits by)

  gives : Tied c.args.self.now (graph_of (slice_set c.self.inside.nodes.items c.args.n c.in_ok-node.node) c.self.inside.sorts.items c.self.inside.is_open c.self.inside.base None) c.args.n c.args.first c.args.second
  gives =
      subst (λ (g : Graph). Tied g (graph_of (slice_set c.self.inside.nodes.items c.args.n c.in_ok-node.node) c.self.inside.sorts.items c.self.inside.is_open c.self.inside.base None) c.args.n c.args.first c.args.second) c.self.view_is
      (subst (λ (x : Node). Tied before (graph_of (slice_set c.self.inside.nodes.items c.args.n x) c.self.inside.sorts.items c.self.inside.is_open c.self.inside.base None) c.args.n c.args.first c.args.second) (sym c.in_ok-node.ensures)
      (tied before c.self.invariant.kept.graph c.args.n c.depth_of-d.result c.args.first c.args.second at fits false))

pub invariant_of-self-2 : goal.invariant_of-self-2
invariant_of-self-2 c = record { kept = kept c; free = known_tied c.self.inside.nodes.items c.args.n c.in_ok-node.node c.self.inside.known c.forget.new.self c.self.invariant.free c.forget.ensures }

pub returns-clause-ok : goal.returns-clause-ok
returns-clause-ok c = gives c
