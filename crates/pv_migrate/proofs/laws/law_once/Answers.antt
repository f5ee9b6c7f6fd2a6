use Rattle.pv_migrate.proofs.MigratedOnce.{said_once}
use Rattle.pv_migrate.proofs.laws.law_once.Goals as goal

pub returns : goal.returns
returns c = said_once
