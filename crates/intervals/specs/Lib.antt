pub mod Cut
pub mod Ends
pub mod Members
