use Rattle.pv_refute.proofs.Inputs.{inputs_fit, is_world}
use Rattle.pv_refute.proofs.laws.law_tries.Goals as goal

pub returns-clause-world : goal.returns-clause-world
returns-clause-world c = is_world c.law_worlds.ensures

pub returns-clause-inputs : goal.returns-clause-inputs
returns-clause-inputs c = inputs_fit c.law_narrowing.ensures
