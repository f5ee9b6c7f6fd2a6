-- what public contracts and laws say
pub mod Words
pub mod Promise
pub mod Run
-- the vocabulary of private functions
pub mod Commands
pub mod Fetching
