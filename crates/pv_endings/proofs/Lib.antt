-- 1. The spine of a token.
pub mod Walking
-- 2. The nodes on it that wait.
pub mod Tested
pub mod Listed
-- 3. What a root waits for.
pub mod Roots
-- What other crates cite.
pub mod Cited
