mod Words
pub mod Reading
pub mod Tying
pub mod Freed
pub mod Growing
pub mod Made
pub mod Naming
pub mod Cited
