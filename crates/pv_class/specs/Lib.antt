-- what public contracts and laws say
pub mod Checks
pub mod Grammars
pub mod ClassGrammar
pub mod ClassFaults
pub mod Answers
pub mod Items
pub mod ClassFiles
pub mod Places
-- the vocabulary of private functions
pub mod Deciding
pub mod Reading
-- laws: each test tells its fact; a test holds its law, so it is proved where it is made
pub mod CheckLaws
