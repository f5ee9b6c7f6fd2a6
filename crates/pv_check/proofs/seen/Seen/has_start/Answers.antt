use Rattle.pv_check.specs.declared.seen.Within.TheVariants.{Outside}
use Rattle.pv_check.specs.Inductions.{IsStart}
use Rattle.pv_check.proofs.Ended.{visible_some, visible_none}
use Rattle.pv_check.proofs.seen.Seen.has_start.Goals as goal

pub returns-in-Some : goal.returns-in-Some
returns-in-Some c =
    visible_some c.visible.result Outside c.args.self.now.steps.now c.args.fact c.in-Some.left c.in-Some.right c.visible.ensures c.in-Some.is (IsStart c.args.graph.now c.args.depth c.args.pair) c.is_start.result c.is_start.ensures

pub returns-in-None : goal.returns-in-None
returns-in-None c = visible_none c.visible.result Outside c.args.self.now.steps.now c.args.fact c.visible.ensures c.in-None.is (IsStart c.args.graph.now c.args.depth c.args.pair)
