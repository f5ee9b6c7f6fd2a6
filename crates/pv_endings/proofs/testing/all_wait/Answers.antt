use Rattle.std.proofs.Common.{◌≡◌, ◌<◌, List, sym, ap, subst, length}
use Rattle.pv_graph.specs.declared.node.Node.{Node}
use Rattle.pv_graph.specs.Graphs.{Graph}
use Rattle.pv_endings.specs.Spine.{IsSpine}
use Rattle.pv_endings.proofs.Tested.{all_may_be_is, all_there}
use Rattle.pv_endings.proofs.testing.all_wait.Goals as goal

pub spine_of-requires : goal.spine_of-requires
spine_of-requires c =
    let same : c.prepare.new.self.nodes ≡ c.args.graph.now.nodes = ap (λ (g : Graph). g.nodes) c.in_ok-prepare.ensures.ok in
    subst (λ (ns : List Node). c.args.token < length ns) (sym same) c.requires

pub returns-clause-all : goal.returns-clause-all
returns-clause-all c =
    let same : c.prepare.new.self.nodes ≡ c.args.graph.now.nodes = ap (λ (g : Graph). g.nodes) c.in_ok-prepare.ensures.ok in
    let all = all_may_be_is c.prepare.new.self c.len.ensures.graph c.args.token c.deref.result.now (subst (IsSpine c.prepare.new.self.nodes c.args.token) (sym c.deref.ensures.value) c.in_ok-spine.ensures) c.args.nodes.now in (
      λ e. all_there c.prepare.new.self c.args.graph.now same c.args.token c.args.nodes.now (all.0 (c.all_may_be.ensures.0 e)),
      λ h. c.all_may_be.ensures.1 (all.1 (all_there c.args.graph.now c.prepare.new.self (sym same) c.args.token c.args.nodes.now h)),
    )
