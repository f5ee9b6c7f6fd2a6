pub mod Calling
pub mod Found
pub mod Refuting
pub mod FindingWords
pub mod FindingOnce
pub mod RefutedOnce
pub mod Differing
pub mod Cited
