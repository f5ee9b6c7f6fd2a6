-- what public contracts say
pub mod Listings
pub mod Dots
-- the vocabulary of private functions
pub mod Alone
