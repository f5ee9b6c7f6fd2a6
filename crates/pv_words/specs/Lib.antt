-- what public contracts say
pub mod Words
pub mod Numbers
pub mod CommandLine
pub mod Answers
pub mod Laws
-- the vocabulary of private code
pub mod Matches
