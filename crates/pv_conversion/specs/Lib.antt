-- what public contracts and laws say
pub mod Runs
pub mod Outcomes
pub mod Laws
-- the vocabulary of private functions
pub mod Meaning
