use Rattle.pv_top.proofs.Commands.{no_compose}
use Rattle.pv_top.proofs.words.compose_of.Goals as goal

pub returns-in_default : goal.returns-in_default
returns-in_default c = no_compose _ (rw c.in_default.is at c.in_ok-given.ensures)
