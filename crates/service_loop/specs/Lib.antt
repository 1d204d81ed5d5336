pub mod Admitting
pub mod Setting
pub mod Timing
pub mod Tokens
