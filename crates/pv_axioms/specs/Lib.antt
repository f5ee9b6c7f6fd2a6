-- what public contracts and laws say
pub mod Entries
-- the vocabulary of private code
pub mod Tables
