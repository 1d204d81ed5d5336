pub mod Upcoming
pub mod Refused
pub mod Powers
pub mod Lists
pub mod Meters
pub mod Entries
pub mod Devices
pub mod Images
