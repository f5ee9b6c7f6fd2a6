-- what public contracts and laws say
pub mod Heads
pub mod Chains
pub mod BadChains
pub mod Answers
pub mod Laws
-- lines at the front of a text, and their laws, which the formats hold
pub mod Fed
pub mod FedReading
pub mod FedLaws
pub mod HexLaws
-- the vocabulary of private functions
pub mod Digits
pub mod Reading
