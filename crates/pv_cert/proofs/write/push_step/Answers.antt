use Rattle.pv_cert.proofs.WrittenLaws.{step_after}
use Rattle.pv_cert.proofs.write.push_step.Goals as goal

pub returns : goal.returns
returns c = step_after _ _ _ _ _ c.args.step.now c.row.ensures c.in_ok-push.ensures c.in_ok-push_row.ensures c.in_ok-extend_from_slice.ensures.items
