-- words
pub mod Words
-- a method that is laid out, and the loops around its blocks
pub mod Laid
pub mod Around
pub mod Turns
-- what a block takes of its actions
pub mod Plain
-- what is made so far stays as the graph grows
pub mod Persisting
pub mod Staged
pub mod Kept
pub mod Runs
-- slots, by their numbers and cells
pub mod Numbers
pub mod Slotted
pub mod Cells
-- the tree of a region, and what is given for its nodes out of closed loops
pub mod Flowing
pub mod Regions
pub mod Climbing
pub mod Outgoing
pub mod Sourced
pub mod GivenFor
-- a block is entered: what the method is given, or the fold of a tree for each slot
pub mod Started
pub mod Beginning
pub mod Folding
pub mod Stating
pub mod Leading
pub mod Defaults
pub mod Frames
pub mod Entered
-- a loop is opened where its header is entered
pub mod Begun
pub mod Opened
pub mod Headed
-- a block is run, and the next one comes
pub mod Restaged
pub mod Blocks
pub mod Outwards
-- a loop is closed after its last block
pub mod Looped
pub mod Cycles
pub mod Ties
pub mod Closed
pub mod Loops
pub mod Leaving
pub mod Shut
-- the root is over the folds of the ends
pub mod Rooting
pub mod Finished
