pub mod Alarms
pub mod Changing
pub mod Finding
pub mod Fitted
pub mod Hiding
pub mod Lines
pub mod Meeting
pub mod Sleeping
