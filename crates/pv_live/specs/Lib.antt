-- what public contracts and laws say
pub mod Live
pub mod Needed
pub mod Laws
-- the vocabulary of private functions
pub mod Marks
