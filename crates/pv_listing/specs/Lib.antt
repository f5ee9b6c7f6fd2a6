-- what public contracts say
pub mod Mnemonics
pub mod Words
pub mod Operands
pub mod Lines
-- how formats are made of formats
pub mod Cases
pub mod Further
-- how words are read
pub mod WordReading
-- laws: a format holds its laws, so these are proved where it is made
pub mod FurtherLaws
pub mod WordLaws
