-- what the public contracts say
pub mod Endings
-- the vocabulary of private functions
pub mod Spine
pub mod Waiting
