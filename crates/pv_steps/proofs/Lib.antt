pub mod Pairs
pub mod Blocks
pub mod Growing
pub mod Section
pub mod Laws
pub mod Cited
