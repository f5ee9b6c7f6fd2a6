pub mod Outcomes
pub mod Deciding
pub mod Loops
pub mod Takings
pub mod ItemTexts
pub mod CodeTexts
pub mod MethodTexts
pub mod Distinct
pub mod MethodLists
pub mod ClassTexts
pub mod ClassAgrees
mod Examples
pub mod CodeBytes
pub mod Placing
pub mod Cited
