-- The machine is never stuck.
use Rattle.pv_machine.proofs.laws.law_never_stuck.Goals as goal
use Rattle.pv_machine.proofs.Typing.{never_stuck}

pub returns : goal.returns
returns c = never_stuck
