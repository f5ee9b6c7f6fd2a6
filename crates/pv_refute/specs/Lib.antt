-- what public contracts and laws say
pub mod Tries
pub mod Differences
pub mod Laws
