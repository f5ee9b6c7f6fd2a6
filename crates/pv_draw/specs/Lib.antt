-- what public contracts and laws say
pub mod Requests
pub mod Drawn
pub mod Run
pub mod Laws
-- the vocabulary of private functions
pub mod Reading
