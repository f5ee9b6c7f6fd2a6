-- what public contracts and laws say
pub mod Denote
pub mod Means
pub mod Typed
pub mod Meaning
pub mod Given
pub mod Words
pub mod TreeValues
pub mod Laws
