use Rattle.std.proofs.Common.{◌<◌, ◌↔◌, [], ℕ, IsTrue, not, length, sym, ap, ◌∙◌, subst, refl}
use Rattle.std.proofs.lemmas.Option.{slice_get_read}
use Rattle.pv_graph.specs.Graphs.{Graph}
use Rattle.pv_graph.specs.Calls.{IsSettledIn}
use Rattle.pv_graph.specs.Kept.{graph_of}
use Rattle.pv_graph.proofs.Marking.{settled_says}
use Rattle.pv_graph.proofs.graph.Graph.settled_now.Goals as goal

pub returns : goal.returns
returns c =
    let is = (c.self.invariant.kept.tables c.in-Some.found c.in-Some.is).unsettled in
    let low : c.args.n < length c.in-Some.found.unsettled.items = subst (λ (k : ℕ). c.args.n < k) (ap (λ (g : Graph). length g.nodes) (sym c.self.view_is) ∙ sym is.marked.long) c.requires.there in
    subst (λ (g : Graph). IsTrue (not c.index.result.now) ↔ IsSettledIn g [] c.args.n) c.self.view_is
    (settled_says (graph_of c.self.inside.nodes.items c.self.inside.sorts.items c.self.inside.is_open c.self.inside.base c.self.inside.prepared) [] c.args.n c.in-Some.found.unsettled.items c.index.result.now is
    (slice_get_read c.in-Some.found.unsettled.items (length c.in-Some.found.unsettled.items) c.args.n c.index.result.now refl low c.index.ensures))
