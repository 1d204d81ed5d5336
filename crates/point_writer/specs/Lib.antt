pub mod Fault
pub mod Fitting
pub mod Nearest
pub mod Outgoing
pub mod SetPoint
pub mod Going
pub mod Places
pub mod Laws
