pub mod Asked
pub mod Simulated
