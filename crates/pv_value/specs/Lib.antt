-- what public contracts and laws say
pub mod Order
pub mod HeapTables
pub mod HeapOrder
pub mod CallOrder
pub mod Heaps
pub mod Numbers
pub mod Descriptors
pub mod Receivers
pub mod Reading
pub mod Spelled
pub mod Inputs
pub mod Worlds
pub mod Narrowing
pub mod Operations
pub mod Laws
