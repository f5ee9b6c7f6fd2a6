use Rattle.pv_axioms.proofs.Numbers.{core_are, all_are}
use Rattle.pv_axioms.proofs.laws.law_core.Goals as goal

pub returns-clause-core : goal.returns-clause-core
returns-clause-core c = core_are

pub returns-clause-all : goal.returns-clause-all
returns-clause-all c = all_are
