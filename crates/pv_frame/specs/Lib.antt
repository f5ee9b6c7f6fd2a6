-- what public contracts and laws say
pub mod Actions
pub mod Stacks
pub mod Effects
pub mod Programs
pub mod Frames
pub mod Causes
pub mod Answers
-- the vocabulary of private functions
pub mod Acting
pub mod Inferring
pub mod Stops
pub mod Stacking
pub mod Rows
