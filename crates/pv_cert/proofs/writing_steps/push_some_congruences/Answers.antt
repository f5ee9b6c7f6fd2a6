use Rattle.pv_cert.proofs.WrittenLaws.{set_after}
use Rattle.pv_cert.proofs.writing_steps.push_some_congruences.Goals as goal

pub returns : goal.returns
returns c = set_after _ _ _ c.args.first.now c.args.rest.now c.in_ok-push_congruence.ensures c.in_ok-push_more_congruences.ensures
