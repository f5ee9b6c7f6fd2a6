use Rattle.std.proofs.Common.{◌<◌, ◌-◌, ◌↔◌, IsTrue, length, ap, subst, refl, arith}
use Rattle.std.proofs.lemmas.Option.{slice_get_read}
use Rattle.pv_graph.specs.Graphs.{Graph}
use Rattle.pv_graph.specs.Graphs as graphs
use Rattle.pv_graph.specs.Calls.{IsFree}
use Rattle.pv_graph.specs.Kept.{graph_of}
use Rattle.pv_graph.proofs.Marking.{free_now_says, no_depth}
use Rattle.pv_graph.proofs.graph.Graph.free_now.Goals as goal

pub index-requires-in-Some : goal.index-requires-in-Some
index-requires-in-Some c =
    let all = c.self.invariant.kept.tables c.in-Some.found c.in-Some.is in
    let low : c.args.d - 1 < length c.in-Some.found.free.items = omega (arith, all.depths, c.if-d-ge1.true, c.if-d-le16.true) in
    let at = slice_get_read c.in-Some.found.free.items (length c.in-Some.found.free.items) (c.args.d - 1) c.index.result.now refl low c.index.ensures in
    let is = all.free (c.args.d - 1) c.index.result.now at in
    omega (arith, is.marked.long, c.requires.there, ap (λ (g : Graph). length g.nodes) c.self.view_is, c.index.result.now.ok.0)

pub returns-in-Some : goal.returns-in-Some
returns-in-Some c =
    let all = c.self.invariant.kept.tables c.in-Some.found c.in-Some.is in
    let low : c.args.d - 1 < length c.in-Some.found.free.items = omega (arith, all.depths, c.if-d-ge1.true, c.if-d-le16.true) in
    let at = slice_get_read c.in-Some.found.free.items (length c.in-Some.found.free.items) (c.args.d - 1) c.index.result.now refl low c.index.ensures in
    let is = all.free (c.args.d - 1) c.index.result.now at in
    let within : c.args.n < length c.index.result.now.items = omega (arith, is.marked.long, c.requires.there, ap (λ (g : Graph). length g.nodes) c.self.view_is) in
    subst (λ (g : Graph). IsTrue c.index-in-Some.result.now ↔ IsFree g c.args.d c.args.n) c.self.view_is
    (free_now_says (graph_of c.self.inside.nodes.items c.self.inside.sorts.items c.self.inside.is_open c.self.inside.base c.self.inside.prepared) c.args.d c.args.n c.index.result.now.items c.index-in-Some.result.now c.if-d-ge1.true is
    (slice_get_read c.index.result.now.items (length c.index.result.now.items) c.args.n c.index-in-Some.result.now refl within c.index-in-Some.ensures))

pub returns-in_default : goal.returns-in_default
returns-in_default c = no_depth c.args.self.now (subst graphs.IsGraph c.self.view_is c.self.invariant.kept.graph) c.args.d c.args.n (λ r. absurd (omega (arith, r.0, r.1, c.if-d-le16.false)))

pub returns-in_default-2 : goal.returns-in_default-2
returns-in_default-2 c = no_depth c.args.self.now (subst graphs.IsGraph c.self.view_is c.self.invariant.kept.graph) c.args.d c.args.n (λ r. absurd (omega (arith, r.0, r.1, c.if-d-ge1.false)))
