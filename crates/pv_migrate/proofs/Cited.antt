-- The laws that the proofs of other crates cite, from one place.
pub use Rattle.pv_migrate.proofs.MigratedWords.{migrated_other, migrated_whole}
