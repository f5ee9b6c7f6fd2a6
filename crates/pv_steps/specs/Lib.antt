-- what public contracts and laws say
pub mod Steps
pub mod Right
pub mod Accepted
pub mod Facts
pub mod Laws
