-- what contracts say
pub mod Met
-- what a search found
pub mod Searched
