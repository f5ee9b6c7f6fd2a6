-- what public contracts and laws say
pub mod Unfolded
pub mod Conversion
pub mod Reasons
-- the vocabulary of private functions
pub mod Slots
pub mod Sources
pub mod States
pub mod Ends
pub mod Stages
pub mod Taken
pub mod Outs
pub mod Giving
pub mod Leaves
pub mod Opening
pub mod Openings
pub mod Building
pub mod Closings
