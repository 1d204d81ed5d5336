pub mod Reverting
