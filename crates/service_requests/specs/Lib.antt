pub mod Hearing
pub mod Tasks
pub mod Identity
pub mod Searches
pub mod Talk
pub mod Sessions
pub mod Guarding
