-- what public contracts and laws say
pub mod Nodes
pub mod Ops
pub mod Forms
pub mod Unfold
pub mod Finite
pub mod Walks
pub mod Graphs
pub mod Calls
pub mod Laws
pub mod SortCode
pub mod Index
pub mod Kept
pub mod Reach
pub mod Known
-- the vocabulary of private functions
pub mod Base
