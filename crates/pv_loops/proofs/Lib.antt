mod Words
mod Grouping
mod Rows
mod Sources
mod Singles
mod Merging
mod Reducing
mod Sweeping
mod Sticking
mod Bodies
mod Gathering
mod Heading
mod Nesting
mod Listing
mod Filling
mod Foresting
mod Surrounding
mod Ordering
mod Weights
mod Keyed
mod Leading
mod Ranking
pub mod Unique
mod Walking
mod Deciding
mod Descending
mod Merged
mod Enclosing
pub mod Forested
mod Orders
mod Examples
pub mod Cited
