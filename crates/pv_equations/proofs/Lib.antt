-- where exits come to, seen from a region, and the walks through it
mod Words
pub mod Lands
pub mod Seen
pub mod Moves
pub mod Walks
-- the tree from a block is one
pub mod Once
-- which depths are free
pub mod Free
pub mod Levels
pub mod Unfolded
-- two solutions unfold equally
pub mod Same
pub mod Agree
pub mod Unique
-- there is a solution
pub mod Search
pub mod Reached
pub mod Decide
pub mod Within
pub mod Bare
pub mod Build
pub mod Exists
-- the laws, and what other crates cite
pub mod Law
pub mod Cited
