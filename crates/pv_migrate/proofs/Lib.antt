pub mod MigratedWords
pub mod Migrating
pub mod MigratedOnce
pub mod Cited
