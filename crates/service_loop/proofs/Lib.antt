pub mod Admitted
pub mod Settings
