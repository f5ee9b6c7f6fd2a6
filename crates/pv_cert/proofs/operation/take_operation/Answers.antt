use Rattle.std.proofs.lemmas.Result.{IfOk-weaker}
use Rattle.pv_format.specs.Seen.{texts}
use Rattle.pv_cert.proofs.ReadSteps.{op_taken, op_missing}
use Rattle.pv_cert.proofs.operation.take_operation.Goals as goal

pub returns-in-None : goal.returns-in-None
returns-in-None c = op_missing (texts c.args.words.now) c.in-None.ensures

pub returns-in-Some : goal.returns-in-Some
returns-in-Some c = IfOk-weaker c.take_params.result _ _ (λ r is. op_taken (texts c.args.words.now) (texts c.in-Some.rest.now) c.in-Some.head _ c.in-Some.ensures is) c.take_params.ensures
