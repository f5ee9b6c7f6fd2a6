-- what public contracts and laws say
pub mod Calls
pub mod Findings
pub mod Lines
pub mod Refuted
pub mod Reading
pub mod Laws
