use Rattle.std.proofs.Common.{sym, subst}
use Rattle.pv_graph.specs.Walks.{In}
use Rattle.pv_graph.proofs.Cited.{in_at}
use Rattle.pv_trim.proofs.spelled.steps_fit.Goals as goal

pub step_fits-requires : goal.step_fits-requires
step_fits-requires c = c.requires c.step-item.result (subst (In c.args.steps.now) (sym c.step-item.is) (in_at c.args.steps.now c.loop-step.step-index c.step-item.result c.loop-step-test.true))
