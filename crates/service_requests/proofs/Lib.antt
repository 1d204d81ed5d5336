pub mod Heard
pub mod Mapping
pub mod Replayed
pub mod Cuts
pub mod Waiting
pub mod Talking
pub mod Turning
pub mod Texts
