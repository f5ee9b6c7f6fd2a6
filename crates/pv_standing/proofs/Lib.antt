-- 1. Nodes with one class number are in one class; what a look-up finds over classes.
pub mod Numbers
-- 2. Where a filled side stands, by its parts.
pub mod Standing
-- 3. Both sides of an instance.
pub mod Both
