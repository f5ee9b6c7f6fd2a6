pub mod Cited
mod NumberSteps
mod TextSteps
