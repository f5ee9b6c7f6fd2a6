mod Appends
mod Apart
pub mod Cited
mod Coded
mod Described
mod Entered
mod LabelSteps
mod Leading
mod LineSteps
mod Listed
mod Made
mod Pools
mod Rooms
mod Spelled
mod Standing
mod Together
