-- 1. Lists, and class numbers.
pub mod Contained
pub mod Numbered
-- 2. Inductions one inside another: what is closed and holds the inductions holds all that may be joined.
pub mod Nest
-- 3. How classes grow at a level: by closing, by joining, and one after the other.
pub mod Growing
-- 4. The greatest induction over a depth: no part that is split was one of an induction.
pub mod Parting
pub mod Looking
-- 5. Its pairs are joined, and its block has its ground.
pub mod Joining
pub mod Inducting
-- 6. From all numbers to the nodes alone.
pub mod Bounded
