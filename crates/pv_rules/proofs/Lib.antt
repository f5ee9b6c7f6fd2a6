pub mod Numbers
pub mod Ready
pub mod Accepting
pub mod Cited
