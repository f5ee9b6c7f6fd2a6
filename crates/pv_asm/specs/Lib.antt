-- what public contracts and laws say
pub mod Needs
pub mod Labels
pub mod Codes
pub mod Listings
pub mod Instructions
pub mod Classes
pub mod Laws
-- what functions answer of which memory may run out
pub mod Stopping
-- how the code keeps a pool
pub mod Numbered
