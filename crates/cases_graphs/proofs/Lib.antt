pub mod Cycles
pub mod Shapes
