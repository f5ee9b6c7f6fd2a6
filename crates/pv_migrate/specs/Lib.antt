-- what public contracts and laws say
pub mod Migrated
pub mod Reading
pub mod Laws
