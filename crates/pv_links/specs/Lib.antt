-- what public contracts and laws say
pub mod Stages
pub mod Flaws
pub mod Composed
pub mod Findings
pub mod Lines
pub mod Ruled
pub mod Reading
pub mod Laws
-- the vocabulary of private functions
pub mod Made
