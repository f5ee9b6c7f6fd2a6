pub mod Structure
pub mod Reasons
pub mod Routine
pub mod Homes
pub mod Carried
