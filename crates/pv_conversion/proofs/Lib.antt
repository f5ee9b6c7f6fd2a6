-- the values in a graph of expressions
mod Words
pub mod Meanings
-- where a run ends, the root has its values
pub mod Follow
-- where the root has a value, a run ends
pub mod Leaves
pub mod Aims
pub mod Alive
pub mod Run
-- roots, and the steps of a machine
pub mod Machine
pub mod Top
pub mod Law
-- what other crates cite
pub mod Cited
