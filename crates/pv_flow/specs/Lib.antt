-- what public contracts and laws say
pub mod Exits
pub mod Blocks
pub mod Answers
pub mod Edges
pub mod Laws
-- the vocabulary of private functions
pub mod Finding
