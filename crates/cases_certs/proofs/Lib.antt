mod Roots
mod Alone
