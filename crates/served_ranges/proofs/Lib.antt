pub mod Between
pub mod Ends
pub mod Sums
