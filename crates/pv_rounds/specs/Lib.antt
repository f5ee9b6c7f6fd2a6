-- what public contracts say
pub mod Searching
pub mod Last
-- the parts of a round
pub mod Decoded
pub mod Known
pub mod Standing
pub mod Asking
pub mod Tables
pub mod Owed
pub mod Joining
