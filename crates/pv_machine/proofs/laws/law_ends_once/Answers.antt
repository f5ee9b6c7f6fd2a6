-- Runs and methods end in one way.
use Rattle.pv_machine.proofs.laws.law_ends_once.Goals as goal
use Rattle.pv_machine.proofs.Typing.{ends_once}
use Rattle.pv_machine.proofs.Methods.{method_ends_once}

pub returns-clause-run : goal.returns-clause-run
returns-clause-run c = ends_once

pub returns-clause-method : goal.returns-clause-method
returns-clause-method c = method_ends_once
