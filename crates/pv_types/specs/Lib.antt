-- what a world tells of types
pub mod Facts
-- what changes where a fact is told
pub mod Laws
