-- states of the machine, and what their cells hold
mod Words
pub mod States
pub mod Ranges
pub mod Locals
pub mod Values
-- one action in a block
pub mod Acts
pub mod Tests
pub mod Once
-- the action that ends a block
pub mod Lasts
pub mod Calls
pub mod Facts
pub mod Ends
pub mod Tokens
-- the run of a block, of which the flow carries each
pub mod Runs
pub mod Starts
pub mod Carried
pub mod Converted
-- what other crates cite
pub mod Cited
