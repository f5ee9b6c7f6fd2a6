-- what operands and slots have in common, whatever stands in them
mod Words
pub mod Options
pub mod Related
pub mod Turns
-- the actions of a method's program, one by one
pub mod Clean
pub mod Actions
pub mod Tokens
-- each block has its chain, whose exits are the edges of the flow
pub mod Frames
pub mod Typed
pub mod Departures
pub mod Edges
-- what chains name and what blocks leave as it is, so that the flow is ranked and finite
pub mod Below
pub mod Kept
pub mod Members
pub mod Keeping
pub mod Ranked
-- what other crates cite
pub mod Cited
