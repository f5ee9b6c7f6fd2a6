use Rattle.std.proofs.Common.{◌≡◌, List, ap, refl, sym, subst, ◌∙◌}
use Rattle.pv_graph.specs.declared.node.Node.{Node}
use Rattle.pv_graph.specs.Graphs.{Graph}
use Rattle.pv_endings.specs.Endings.{AreEndingsOf}
use Rattle.pv_endings.specs.Spine.{IsSpine}
use Rattle.pv_endings.proofs.Roots.{are_endings, no_endings, none_wait, token_low}
use Rattle.pv_endings.proofs.listing.endings.Goals as goal

pub returns-in_default : goal.returns-in_default
returns-in_default c = subst (AreEndingsOf c.args.graph.now c.args.root) (sym c.new.ensures.items) (no_endings c.args.graph.now c.args.root c.in_default.ensures)

pub spine_of-requires : goal.spine_of-requires
spine_of-requires c = token_low c.args.graph.now c.args.graph.now refl c.len-len.ensures.graph c.args.root c.in-Some.parts c.in-Some.ensures

pub returns-then-not-any_waits : goal.returns-then-not-any_waits
returns-then-not-any_waits c =
    let marks : c.deref.result.now ≡ c.in_ok-spine.spine.items = c.deref.ensures.value in
    subst (AreEndingsOf c.args.graph.now c.args.root) (sym c.new-then-not-any_waits.ensures.items)
    (none_wait c.args.graph.now c.len-len.ensures.graph c.args.root c.in-Some.parts c.deref.result.now c.in-Some.ensures
    (subst (IsSpine c.args.graph.now.nodes c.in-Some.parts.token) (sym marks) c.in_ok-spine.ensures) c.if-not-any_waits.ensures)

pub returns : goal.returns
returns c =
    let same : c.prepare.new.self.nodes ≡ c.args.graph.now.nodes = ap (λ (g : Graph). g.nodes) c.in_ok-prepare.ensures.ok ∙ ap (λ (g : Graph). g.nodes) c.in_ok-copy.ensures in
    let marks : c.deref-2.result.now ≡ c.in_ok-spine.spine.items = c.deref-2.ensures.value in
    let spine : IsSpine c.prepare.new.self.nodes c.in-Some.parts.token c.deref-2.result.now =
    subst (λ (nodes : List Node). IsSpine nodes c.in-Some.parts.token c.deref-2.result.now) (sym same)
    (subst (IsSpine c.args.graph.now.nodes c.in-Some.parts.token) (sym marks) c.in_ok-spine.ensures) in
    are_endings c.args.graph.now c.prepare.new.self c.args.root c.in-Some.parts c.in_ok-nodes.nodes.items same c.in-Some.ensures (c.in_ok-nodes.ensures c.in-Some.parts.token spine)
