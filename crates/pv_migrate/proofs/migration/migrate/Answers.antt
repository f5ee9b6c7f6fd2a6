use Rattle.pv_migrate.proofs.Migrating.{rewrites}
use Rattle.pv_migrate.proofs.migration.migrate.Goals as goal

pub returns-in_ok-write_cert-in-Ok-clause-certificate : goal.returns-in_ok-write_cert-in-Ok-clause-certificate
returns-in_ok-write_cert-in-Ok-clause-certificate c = rewrites c.args.cert.now c.in-Ok.cert c.in_ok-write_cert-in-Ok.field-0 (rw c.in-Ok.is at c.in_ok-cert.ensures) c.in_ok-write_cert-in-Ok.ensures
