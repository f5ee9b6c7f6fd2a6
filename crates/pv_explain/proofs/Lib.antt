-- 1. An instance of an axiom is one over copies of its nodes.
mod Copied
-- 2. Nodes are copied one after the other.
mod Copying
-- 3. Lines on a path are put together.
mod Following
-- 4. Nodes of one operation are congruent where lines link their kids.
mod Congruent
-- 5. What joins link, their lines link.
mod Linking
-- 6. What holds of the nodes that joins and blocks name.
mod Naming
-- 7. The place where a join is explained, and the next one.
mod Placing
-- 8. What the steps of an induction rest on, and what is visible in its block and after it.
mod Inductions
-- 9. Thetas at iteration 0, and one iteration later.
mod Iterating
-- 10. The pairs of an induction: what is stated of them outside its block, inside it, and after it.
mod Beginning
-- 11. The joins that are needed: marks on the joins of paths, and what rests on marked joins.
mod Marking
mod Thinning
mod Marked
-- 12. The nodes that are needed: those that are named, and all below them.
mod NodeMarks
-- 13. The whole section.
mod Concluding
-- 14. Reasons for pairs of nodes.
mod Pairing
-- 15. Ending blocks.
mod EndingBlocks
-- 16. More axioms keep the grounds of joins; what other crates cite.
mod Giving
pub mod Cited
