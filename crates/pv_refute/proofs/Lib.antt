pub mod Heaps
pub mod Digits
pub mod Inputs
pub mod Runs
pub mod Meanings
pub mod Cited
