pub mod Faults
pub mod Reads
pub mod Layout
pub mod Chain
pub mod Search
pub mod Discovery
pub mod Memory
pub mod Laws
