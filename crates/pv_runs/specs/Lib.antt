-- what public contracts and laws say
pub mod Held
pub mod Chains
pub mod Blocks
pub mod Carrying
pub mod Entries
pub mod Methods
pub mod Clean
pub mod Laws
