-- what public contracts and laws say
pub mod Counted
pub mod Cleared
pub mod Laws
pub mod Examples
pub mod Recognized
pub mod Rounds
pub mod Folding
pub mod Replaced
