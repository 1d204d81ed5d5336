mod Bounds
pub mod Companions
mod Fitted
mod Outputs
pub mod Plans
mod Ranges
