-- what public contracts say
pub mod Numbered
pub mod Conditions
pub mod Witnesses
pub mod Asked
-- what the functions of this crate do
pub mod Supports
pub mod Found
pub mod Table
-- the test of the axioms' conditions, for the proofs alone
pub mod AskedTest
