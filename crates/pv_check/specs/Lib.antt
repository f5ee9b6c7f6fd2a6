-- what contracts say
pub mod Kept
pub mod Depths
pub mod Nodes
pub mod Sets
pub mod Inductions
pub mod Growth
pub mod Endings
pub mod Testing
pub mod Rules
pub mod Checking
