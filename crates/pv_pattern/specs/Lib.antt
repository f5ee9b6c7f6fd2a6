-- what public contracts and laws say
pub mod Patterns
pub mod Numbers
pub mod Instances
pub mod Laws
pub mod Seen
pub mod Conditions
pub mod Tables
pub mod Found
pub mod Binding
