use Rattle.pv_build.proofs.Words.{IfOk-weaker}
use Rattle.pv_build.proofs.Started.{first_none, first_some}
use Rattle.pv_build.proofs.starting.first_op.Goals as goal

pub returns-then-k-ops : goal.returns-then-k-ops
returns-then-k-ops c = first_none c.args.ops.now c.args.k c.args.sort c.in-Int.is c.if-k-ops.true

pub returns-else-k-ops : goal.returns-else-k-ops
returns-else-k-ops c = IfOk-weaker c.copy.result _ _ (λ o same. first_some c.args.ops.now c.args.k c.args.sort c.index-ops-k.result o c.in-Int.is c.if-k-ops.false c.index-ops-k.is same) c.copy.ensures
