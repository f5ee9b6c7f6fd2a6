use Rattle.pv_top.proofs.Commands.{no_migrate}
use Rattle.pv_top.proofs.words.migrate_of.Goals as goal

pub returns-in_default : goal.returns-in_default
returns-in_default c = no_migrate _ (rw c.in_default.is at c.in_ok-given.ensures)
