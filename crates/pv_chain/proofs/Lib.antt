-- laws that other crates cite
pub mod Cited
pub mod Once
pub mod Written
-- for the proofs of this crate
mod HeadSteps
mod LineSteps
mod Parted
