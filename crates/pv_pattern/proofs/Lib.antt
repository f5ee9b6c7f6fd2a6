pub mod Nodes
pub mod Equations
pub mod Endless
pub mod Binding
pub mod Answered
pub mod Bound
pub mod Cited
