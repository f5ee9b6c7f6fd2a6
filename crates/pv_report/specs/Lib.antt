-- what public contracts and laws say
pub mod Partners
pub mod Roots
pub mod Options
pub mod Verdicts
pub mod Lines
pub mod Listed
pub mod Statuses
pub mod Report
pub mod Shown
pub mod Judging
pub mod Proving
pub mod Tables
pub mod Pieces
pub mod Laws
-- the vocabulary of private functions
pub mod Waiting
