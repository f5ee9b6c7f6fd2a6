-- what public contracts and laws say
pub mod Reads
pub mod Laws
pub mod Terms
