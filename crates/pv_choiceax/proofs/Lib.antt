pub mod Values
pub mod Lifted
pub mod Nested
pub mod Equations
pub mod Numbers
pub mod Whole
pub mod Joined
pub mod Cited
