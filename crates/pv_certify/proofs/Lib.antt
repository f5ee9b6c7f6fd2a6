-- 1. What a search made is what joins are explained from.
pub mod Explaining
-- 2. What other crates cite.
pub mod Cited
