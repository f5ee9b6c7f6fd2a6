-- words and lists
pub mod Words
pub mod Lists
-- layout: which methods are structured, and the loops around their blocks
pub mod Structures
pub mod Trees
pub mod Headers
-- what each loop carries
pub mod Storing
pub mod Writing
pub mod Uniting
pub mod Carries
-- what other crates cite
pub mod Cited
