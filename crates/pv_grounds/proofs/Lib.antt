-- 1. Joins keep their grounds where old nodes stay and what was given is given still.
pub mod Staying
-- 2. What is given in a graph is given in those that grew from it.
pub mod Given
-- 3. The joins of a search, from round to round.
pub mod Rounding
-- 4. A graph that grew from a well-made least graph is well made.
pub mod Ruled
-- 5. What another iteration of a depth leaves alone.
pub mod Iterations
-- 6. A theta at iteration 0 and at later ones.
pub mod Thetas
-- 7. What joins say inside the inductions around them.
pub mod Holding
-- 8. What the classes of a search say of the nodes of its least graph.
pub mod Sameness
-- What other crates cite.
pub mod Cited
