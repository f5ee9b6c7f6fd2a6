-- what public contracts and laws say
pub mod Seen
pub mod Sorted
pub mod Made
pub mod Laws
pub mod Classes
-- what the functions of this crate do
pub mod Parts
-- the test of the axioms' sorts, for the proofs alone
pub mod Facts
pub mod Fits
