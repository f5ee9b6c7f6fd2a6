use Rattle.std.proofs.Common.{◌↔◌, ◌<◌, ◌-◌, Bool, List, Vec, IsTrue, length, refl, sym, ap, subst, arith}
use Rattle.std.specs.declared.alloc.Global.{Global}
use Rattle.std.proofs.lemmas.Option.{slice_get_within, slice_get_read}
use Rattle.pv_graph.specs.declared.node.Node.{Node}
use Rattle.pv_graph.specs.Graphs.{Graph, form_at}
use Rattle.pv_graph.specs.Walks.{Free}
use Rattle.pv_graph.specs.Reach.{AllKidsWithin}
use Rattle.pv_graph.specs.Calls.{IsFree}
use Rattle.pv_graph.specs.Kept.{graph_of}
use Rattle.pv_graph.proofs.Marking.{all_within, in_depths}
use Rattle.pv_graph.proofs.Knowing.{known_at, mark_says}
use Rattle.pv_graph.proofs.graph.Graph.free_growing.Goals as goal

pub mark-requires : goal.mark-requires
mark-requires c = (in_depths c.args.d c.requires.depth).0

pub returns-in-Some-clause-yes : goal.returns-in-Some-clause-yes
returns-in-Some-clause-yes c =
    subst (λ (g : Graph). IsTrue c.in-Some.yes ↔ IsFree g c.args.d c.args.n) c.self.view_is
    (mark_says c.self.inside.nodes.items c.self.inside.known c.args.d c.args.n c.in-Some.yes c.self.invariant.free (in_depths c.args.d c.requires.depth).0 c.in-Some.ensures)

pub learn-requires-clause-within : goal.learn-requires-clause-within
learn-requires-clause-within c =
    subst (λ (xs : List Node). AllKidsWithin xs (length xs)) (sym c.deref.ensures.value)
    (all_within (graph_of c.self.inside.nodes.items c.self.inside.sorts.items c.self.inside.is_open c.self.inside.base c.self.inside.prepared) c.self.invariant.kept.graph)

pub learn-requires-clause-depth : goal.learn-requires-clause-depth
learn-requires-clause-depth c = (in_depths c.args.d c.requires.depth).0

pub index-marks-requires : goal.index-marks-requires
index-marks-requires c = let all = c.in_ok-learn.ensures.all in omega (arith, slice_get_within c.learn.new.self.marks.items (c.args.d - 1) all.0 all.1, c.learn.new.self.marks.ok.0)

pub index-requires : goal.index-requires
index-requires c =
    let there : c.args.n < length c.deref.result.now = omega (arith, c.requires.there, ap (λ (g : Graph). length g.nodes) c.self.view_is, c.deref.ensures.len, c.self.inside.nodes.ok.0) in
    let at = known_at c.deref.result.now c.learn.new.self c.args.d c.args.n c.index-marks.result.now c.in_ok-learn.ensures.all c.index-marks.ensures there in
    omega (arith, at.1, c.index-marks.result.now.ok.0)

pub returns-clause-yes : goal.returns-clause-yes
returns-clause-yes c =
    let there : c.args.n < length c.deref.result.now = omega (arith, c.requires.there, ap (λ (g : Graph). length g.nodes) c.self.view_is, c.deref.ensures.len, c.self.inside.nodes.ok.0) in
    let marks : Vec Bool Global = c.index-marks.result.now in
    let at = known_at c.deref.result.now c.learn.new.self c.args.d c.args.n marks c.in_ok-learn.ensures.all c.index-marks.ensures there in
    subst (λ (g : Graph). IsTrue c.index.result.now ↔ IsFree g c.args.d c.args.n) c.self.view_is
    (subst (λ (nodes : List Node). IsTrue c.index.result.now ↔ Free (form_at nodes) c.args.d c.args.n) c.deref.ensures.value
    (mark_says c.deref.result.now c.learn.new.self c.args.d c.args.n c.index.result.now c.in_ok-learn.ensures.known (in_depths c.args.d c.requires.depth).0
    (marks, at.0, slice_get_read marks.items (length marks.items) c.args.n c.index.result.now refl at.1 c.index.ensures)))
