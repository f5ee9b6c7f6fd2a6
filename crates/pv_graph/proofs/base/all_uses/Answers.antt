use Rattle.std.proofs.Common.{Bool, List, sym, ◌∙◌, subst}
use Rattle.pv_graph.specs.Reach.{AreUses}
use Rattle.pv_graph.proofs.Reaching.{uses_all}
use Rattle.pv_graph.proofs.Basing.{all_are_uses}
use Rattle.pv_graph.proofs.base.all_uses.Goals as goal

pub returns : goal.returns
returns c =
    all_are_uses c.args.nodes.now c.in_ok-out.out.items c.in_ok-uses.uses.items c.in_ok-out.ensures
    (subst (λ (out : List Bool). AreUses c.args.nodes.now out c.in_ok-uses.uses.items) c.deref.ensures.value (uses_all c.args.nodes.now c.deref.result.now c.in_ok-uses.uses.items c.in_ok-uses.ensures.uses)) (sym c.in_ok-uses.uses.ok.0 ∙ c.in_ok-uses.ensures.len)
