-- what public contracts say
pub mod Partition
pub mod Blocks
pub mod Linked
pub mod Closest
pub mod Grounds
pub mod Sorts
pub mod Numbered
pub mod Forms
pub mod Index
pub mod Calls
-- the vocabulary of private functions
pub mod Congruence
pub mod Closing
pub mod Learning
pub mod Keyed
