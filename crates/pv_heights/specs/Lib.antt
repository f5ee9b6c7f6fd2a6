-- To believe the verdict, in the order to read:
-- which things are joined
pub mod Systems
-- the sides of axioms, and in which class they stand
pub mod Filled
pub mod Sides
pub mod Conditions
-- matches, and how many there are
pub mod Matches
-- terms, the heights, and the verdict
pub mod Terms
pub mod Heights
pub mod Verdicts
-- To see why a search on nodes finds it:
-- what a round adds and joins, and a search
pub mod Rounds
pub mod Searches
-- how a closing with inductions runs
pub mod Closing
-- terms and nodes with the same classes
pub mod SameClasses
-- the laws
pub mod Laws
