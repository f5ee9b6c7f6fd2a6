mod Words
pub mod Places
pub mod Chains
pub mod Folding
pub mod Exits
pub mod Sound
pub mod Following
pub mod Dead
pub mod Cut
pub mod Walked
pub mod Reached
pub mod Making
pub mod OfFlow
pub mod Cited
