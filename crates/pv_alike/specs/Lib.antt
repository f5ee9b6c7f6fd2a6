-- what public contracts and laws say
pub mod Visits
pub mod Renumbered
pub mod Partition
pub mod Least
pub mod Algorithm
pub mod Laws
-- the vocabulary of private functions
pub mod BottomUp
pub mod Keys
pub mod Quotient
