pub mod Entries
pub mod Placed
pub mod Whole
pub mod Trees
pub mod Lookup
pub mod Uniqueness
pub mod Refused
