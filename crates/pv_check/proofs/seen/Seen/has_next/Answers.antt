use Rattle.std.proofs.Common.{[], ◌∷◌}
use Rattle.pv_graph.specs.declared.node.Op.TheVariants as op
use Rattle.pv_steps.specs.Right.{Is}
use Rattle.pv_check.specs.declared.seen.Within.TheVariants.{Here}
use Rattle.pv_check.proofs.Ended.{visible_some, visible_none}
use Rattle.pv_check.proofs.seen.Seen.has_next.Goals as goal

pub returns-in-Some : goal.returns-in-Some
returns-in-Some c =
    visible_some c.visible.result Here c.args.self.now.steps.now c.args.fact c.in-Some.left c.in-Some.right c.visible.ensures c.in-Some.is
    (λ a b. Is c.args.graph.now a (op.Shift c.args.depth) (c.args.pair.0 ∷ []) × Is c.args.graph.now b (op.Shift c.args.depth) (c.args.pair.1 ∷ [])) c.is_next.result c.is_next.ensures

pub returns-in-None : goal.returns-in-None
returns-in-None c =
    visible_none c.visible.result Here c.args.self.now.steps.now c.args.fact c.visible.ensures c.in-None.is
    (λ a b. Is c.args.graph.now a (op.Shift c.args.depth) (c.args.pair.0 ∷ []) × Is c.args.graph.now b (op.Shift c.args.depth) (c.args.pair.1 ∷ []))
