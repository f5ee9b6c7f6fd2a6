use Rattle.std.proofs.Common.{reverse, sym, ◌∙◌}
use Rattle.pv_endings.specs.Endings.{WaitsFor}
use Rattle.pv_steps.specs.Right.{RightAssume}
use Rattle.pv_check.proofs.Ended.{none_open}
use Rattle.pv_check.proofs.Deciding.{if_ok_map}
use Rattle.pv_check.proofs.Finished.{assume_is}
use Rattle.pv_check.proofs.seen.Seen.is_assume.Goals as goal

pub returns-clause-right : goal.returns-clause-right
returns-clause-right c =
    if_ok_map c.waits_for.result (WaitsFor c.args.graph.now c.args.p c.args.nodes.now) (RightAssume c.args.graph.now (reverse c.args.self.now.steps.now) c.args.p c.args.nodes.now)
    (assume_is c.args.graph.now (reverse c.args.self.now.steps.now) c.args.p c.args.nodes.now (none_open c.args.self.now.steps.now (sym c.inside.ensures.number ∙ c.if-inside-ne0.false))) c.waits_for.ensures.all
