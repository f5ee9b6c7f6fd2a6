-- the descriptors of the symbols of facts, and what stays where a fact is told
pub mod Telling
-- what other crates cite
pub mod Cited
