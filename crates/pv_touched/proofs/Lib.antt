-- 1. How far left sides look, and which classes are near those that changed.
pub mod Tables
pub mod Clear
-- 2. What held at the earlier look holds still; and a match at an untouched node was one then.
pub mod Onward
pub mod Before
-- 3. So the matches that were known can be taken over.
pub mod Takes
