-- what contracts say
pub mod Words
pub mod Spellings
pub mod Tokens
pub mod Lines
-- laws, which tokens and lines hold
pub mod TokenLaws
pub mod LineLaws
