-- 1. Lists.
pub mod Rows
pub mod Elements
-- 2. A partition: a part goes into another, so exactly two classes become one; one node more.
pub mod Parts
pub mod Merging
pub mod OneMore
-- 3. What joins link, and what a closing may join.
pub mod Links
-- 4. The index: keys of nodes, two nodes are joined and their parents wait, a key is put in, a node is visited.
pub mod Waking
pub mod Keys
pub mod Inserting
pub mod Advancing
pub mod Visiting
pub mod Keying
-- 5. A closing: passes over the waiting nodes; where none waits, all is joined that is to be joined.
pub mod Passes
-- 6. New nodes: their parents and numbers; the index of the first nodes becomes one of all.
pub mod Learnt
pub mod Growing
-- 7. What callers see of all this.
pub mod Views
-- 8. Grounds: joins one after another, more joins before, more blocks; and their nodes have one sort.
pub mod Grounded
pub mod Sorted
pub mod Cited
