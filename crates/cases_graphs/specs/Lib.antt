-- the vocabulary of private functions
pub mod Rules
