-- what public contracts say
pub mod Earlier
-- how it is found which classes changed, and which nodes are near them
pub mod Looks
pub mod Far
