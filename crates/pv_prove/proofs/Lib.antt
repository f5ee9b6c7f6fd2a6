-- 1. How two roots meet is what a search sees of them.
pub mod Meets
-- 2. A search, seen from the least graph, and the grounds of its joins in a round.
pub mod Growing
-- 3. What is seen of two searches, as the verdict asks.
pub mod Looking
-- 4. What they end with is the verdict.
pub mod Finding
-- 5. Roots that met have the same values.
pub mod Meaning
-- 6. The verdict looks at nodes and roots alone.
pub mod ByNodes
-- What other crates cite.
pub mod Cited
