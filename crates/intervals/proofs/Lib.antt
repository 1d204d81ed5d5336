pub mod Corners
pub mod Cuts
pub mod Magnitudes
pub mod Products
pub mod Quotients
pub mod Remainders
pub mod Sums
