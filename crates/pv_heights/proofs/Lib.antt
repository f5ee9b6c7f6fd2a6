-- In these files S and T are two systems, C and D their members, J and E what is joined in them, K and L what is given, O the fixed
-- depths, and P the pairs of an induction.
--
-- 1. What is joined, by inductions one in another, and how a closing comes to it.
pub mod Zips
pub mod Nest
pub mod Induct
pub mod Congruent
pub mod HeightLaws
-- 2. Two systems: what stands for a thing, and what is joined goes over.
pub mod Stand
pub mod Transfer
pub mod Both
-- 3. Sides, conditions, matches and their number are the same on both sides.
pub mod Sides
pub mod Matches
-- 4. A round: two systems with the same classes have the same after it.
pub mod Round
pub mod Height
-- 5. Terms and nodes are such systems, so a search that has made k rounds is at height k.
pub mod Terms
pub mod Nodes
pub mod Reached
-- 6. A round by a list of matches is one, and a list of matches counts them.
pub mod Named
pub mod Saturation
pub mod Listed
pub mod Counting
-- 7. The verdict.
pub mod Verdicts
pub mod Once
-- For the crates above: a side that stands at a node, and the nodes of the base.
pub mod Instances
pub mod Standing
pub mod Bases
pub mod Cited
-- 8. Worked examples: the definitions on small cases; questions with their verdicts; an induction.
pub mod Examples
pub mod Alone
pub mod Sums
pub mod SumVerdicts
pub mod ConstantVerdicts
pub mod LoopsJoined
