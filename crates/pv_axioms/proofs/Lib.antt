pub mod Numbers
pub mod Sides
pub mod Sound
pub mod Finding
pub mod SameNodes
pub mod Cited
