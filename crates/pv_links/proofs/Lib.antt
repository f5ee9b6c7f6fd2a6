-- laws that other crates cite
pub mod Cited
pub mod LinkWords
pub mod Meaning
-- for the proofs of this crate
mod LinkOnce
mod ChainSize
mod Linking
mod Chained
mod Placed
mod Reported
mod Joined
