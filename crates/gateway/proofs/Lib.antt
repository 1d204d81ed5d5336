mod Ending
mod Exact
mod Filling
pub mod Parts
mod Replaying
pub mod Scanning
mod Serving
pub mod Settled
pub mod Sized
mod Spelled
pub mod Totals
mod Waiting
pub mod Dropping
pub mod Requesting
pub mod Searched
pub mod Talking
pub mod Reading
pub mod Found
pub mod Blocks
pub mod SetAgain
pub mod Turns
mod Unpaired
