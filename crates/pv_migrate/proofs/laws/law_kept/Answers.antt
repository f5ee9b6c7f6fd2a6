use Rattle.pv_migrate.proofs.MigratedOnce.{is_kept}
use Rattle.pv_migrate.proofs.laws.law_kept.Goals as goal

pub returns : goal.returns
returns c = is_kept
