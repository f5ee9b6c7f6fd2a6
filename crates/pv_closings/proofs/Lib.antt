-- 1. The nodes of a list and those of a graph are joined alike.
pub mod Same
-- 2. The classes that `induct` leaves.
pub mod Inducted
-- What other crates cite.
pub mod Cited
