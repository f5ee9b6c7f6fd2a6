pub mod Marks
pub mod Departing
pub mod Numbering
pub mod Spans
pub mod Making
pub mod Flows
pub mod OneFlow
pub mod Cited
