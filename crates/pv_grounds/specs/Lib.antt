-- joins and blocks where a graph grows
pub mod Grounds
-- a round of a search
pub mod Rounds
-- what joined nodes mean
pub mod Same
-- the searches that they speak of
pub mod Searches
