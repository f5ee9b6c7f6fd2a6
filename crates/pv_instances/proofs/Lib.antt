-- 1. The test of an axiom's sorts is right, and each axiom passes it.
pub mod Telling
pub mod Fitting
pub mod Table
-- 2. Classes keep one sort each.
pub mod Growing
pub mod ClassSorts
-- 3. What is filled in, and made.
pub mod FilledParts
pub mod MadeSides
pub mod MadeInstances
-- For the crates above.
pub mod Cited
