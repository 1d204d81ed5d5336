pub mod Bytes
pub mod Answers
pub mod Targets
pub mod Lasts
