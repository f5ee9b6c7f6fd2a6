-- what public contracts and laws say
pub mod Shapes
pub mod Steps
pub mod Loops
pub mod Groups
pub mod Reductions
pub mod Bodies
pub mod Nests
pub mod Outwards
pub mod Keys
pub mod Forests
pub mod Ranks
pub mod Faults
pub mod Laws
