pub mod Opened
pub mod Printing
pub mod Probed
pub mod Ran
pub mod Tried
