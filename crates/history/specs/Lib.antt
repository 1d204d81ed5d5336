pub mod Bounds
pub mod Steps
pub mod Points
pub mod Events
pub mod Recorded
pub mod Told
