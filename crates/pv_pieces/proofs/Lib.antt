pub mod Cutting
pub mod Cited
