use Rattle.pv_steps.proofs.Cited.{accepted_not_rejected, rejected_once}
use Rattle.pv_axioms.specs.Entries.{ByAxioms}
use Rattle.pv_axioms.proofs.laws.law_rejected.Goals as goal

pub returns-clause-not_both : goal.returns-clause-not_both
returns-clause-not_both c = accepted_not_rejected ByAxioms

pub returns-clause-once : goal.returns-clause-once
returns-clause-once c = rejected_once ByAxioms
