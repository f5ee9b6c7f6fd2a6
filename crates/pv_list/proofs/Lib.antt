pub mod Elements
pub mod Cited
