-- 1. Names and bindings, and what a left side along a node gives.
pub mod Naming
pub mod Binds
pub mod Adding
pub mod Sizes
pub mod Extending
pub mod Forms
pub mod Groups
-- 2. From bindings to matches.
pub mod Params
pub mod Finish
pub mod AllOf
-- 3. All matches, each once and in order, up to a limit.
pub mod Ordered
pub mod Merging
pub mod Sorting
pub mod Listing
pub mod Gathers
pub mod Uniting
pub mod Parts
pub mod Known
pub mod Beside
pub mod Listings
-- 4. Tables that are read.
pub mod Readable
-- 5. Class numbers are classes of nodes, and matches by number are matches on classes.
pub mod Numbered
pub mod SidesThere
pub mod Marked
pub mod Sound
pub mod Rebuilt
pub mod Full
pub mod Decoded
pub mod Agreed
pub mod Answering
pub mod Looking
pub mod Taking
-- What other crates cite.
pub mod Cited
