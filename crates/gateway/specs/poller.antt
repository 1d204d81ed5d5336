-- What is asked of devices over a link, and whole scans.
pub mod LinkRun
pub mod Polling
pub mod Waiting
pub mod Asking
pub mod Finding
pub mod Cycle
pub mod Telling
