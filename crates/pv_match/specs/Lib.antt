-- what public contracts say
pub mod Reading
pub mod Parameters
pub mod AllMatches
pub mod Orders
pub mod OrderLaws
-- matches by the numbers of classes, as this crate's own functions speak of them
pub mod Standing
pub mod Matches
pub mod All
pub mod Rematching
-- how they are found
pub mod Kept
pub mod Bindings
pub mod Finishing
pub mod Grouping
pub mod Rules
pub mod Gathering
pub mod Finding
-- how class numbers are classes of nodes
pub mod Agreeing
