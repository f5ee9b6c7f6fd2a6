-- 1. The conditions that some matches ask, and their witnesses.
pub mod Seeking
pub mod Deepest
pub mod Witnessing
-- 2. Instances, one after another.
pub mod Growing
pub mod Adding
pub mod Deciding
pub mod OneMore
-- 3. Their joins.
pub mod Numbers
pub mod Joined
-- 4. A round as a whole.
pub mod Keeping
pub mod Leaving
pub mod Stood
pub mod Rounding
pub mod Searching
-- 5. What other crates cite.
pub mod Cited
