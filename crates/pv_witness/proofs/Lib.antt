-- 1. The nodes with class numbers.
pub mod Numbering
-- 2. How supports are found, and that they cover each class of which the condition holds.
pub mod Supporting
pub mod Complete
-- 3. Copies of nodes; one witness more; and the whole table.
pub mod Copies
pub mod Stepping
pub mod Witnessing
pub mod Starting
-- 4. What axioms ask of each variable.
pub mod Asking
-- For the crates above.
pub mod Cited
