-- The core: what happens to a site, one event after another.
pub mod SiteRun
pub mod Restoring
pub mod Core
pub mod Control
pub mod Driving
pub mod Fault
