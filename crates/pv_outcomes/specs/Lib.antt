-- what public contracts and laws say
pub mod Laws
-- the vocabulary of proofs
pub mod Matches
