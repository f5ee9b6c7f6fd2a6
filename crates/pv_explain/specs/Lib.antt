-- what public contracts say
pub mod Copies
pub mod Sections
-- the vocabulary of private code
pub mod Marks
pub mod Copying
pub mod Lines
pub mod Levels
pub mod Iterations
pub mod Pairs
pub mod Endings
pub mod Needed
pub mod Named
