pub mod Handed
pub mod Filled
