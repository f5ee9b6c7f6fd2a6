-- what public contracts and laws say
pub mod Draws
pub mod Methods
pub mod Classes
