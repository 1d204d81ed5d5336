pub mod Letters
pub mod Unmarked
