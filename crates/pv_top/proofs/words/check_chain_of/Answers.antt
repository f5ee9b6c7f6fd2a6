use Rattle.pv_top.proofs.Commands.{no_check_chain}
use Rattle.pv_top.proofs.words.check_chain_of.Goals as goal

pub returns-in_default : goal.returns-in_default
returns-in_default c = no_check_chain _ (rw c.in_default.is at c.in_ok-given.ensures)
