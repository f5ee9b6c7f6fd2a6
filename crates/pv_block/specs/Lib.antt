-- what public contracts and laws say
pub mod Standing
pub mod Sorted
pub mod Plain
pub mod Ran
-- the vocabulary of private functions
pub mod Cells
pub mod Acting
pub mod Leaving
pub mod Lines
pub mod Effects
pub mod Rows
