-- what public contracts and laws say
pub mod Sites
pub mod Folds
pub mod Walks
pub mod Placing
pub mod Reaching
pub mod Trees
-- the vocabulary of private functions
pub mod Landings
