-- laws that other crates cite
pub mod Cited
pub mod EachText
-- for the proofs of this crate
mod Moves
mod Leads
mod Following
mod CertLaws
mod ReadSteps
mod WrittenLaws
