-- what public contracts and laws say
pub mod Findings
pub mod Flaws
pub mod Lines
pub mod Ruled
pub mod Reading
pub mod Certified
pub mod Laws
