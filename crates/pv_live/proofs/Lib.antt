pub mod Agree
pub mod ListLaws
pub mod Rows
pub mod Tables
pub mod Kept
pub mod Examples
pub mod Cited
