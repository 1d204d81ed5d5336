pub mod Rightful
pub mod Heard
pub mod Frames
pub mod Placed
pub mod Waking
pub mod Waited
