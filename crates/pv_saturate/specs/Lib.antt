-- what public contracts say
pub mod Decoding
pub mod Choice
pub mod Added
-- what lemmas for the layer above say
pub mod Tables
-- how a match is decoded
pub mod Operations
pub mod Told
