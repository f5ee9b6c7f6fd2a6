-- what contracts say: formats of texts
pub mod Formats
pub mod Reading
pub mod Splits
pub mod Cases
pub mod Combinators
pub mod Choices
pub mod Seen
-- and grammars of bytes
pub mod Numbers
pub mod Grammars
pub mod GrammarReading
pub mod FreeGrammars
pub mod ByteReading
pub mod Stopping
-- laws: what is spelled is read again, and nothing else is; a format holds them, so each is proved where it is made
pub mod Options
pub mod FormatLaws
pub mod SplitLaws
pub mod ChoiceLaws
