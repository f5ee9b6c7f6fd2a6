use Rattle.pv_steps.proofs.Cited.{accepted_same, accepted_least}
use Rattle.pv_axioms.specs.Entries.{ByAxioms}
use Rattle.pv_axioms.proofs.Sound.{sound}
use Rattle.pv_axioms.proofs.laws.law_accepted.Goals as goal

pub returns-clause-same : goal.returns-clause-same
returns-clause-same c = accepted_same ByAxioms sound

pub returns-clause-least : goal.returns-clause-least
returns-clause-least c = accepted_least ByAxioms sound
