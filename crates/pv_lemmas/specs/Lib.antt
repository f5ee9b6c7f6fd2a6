-- what public contracts and laws say
pub mod Lemmas
pub mod Laws
-- the vocabulary of private functions
pub mod Asked
