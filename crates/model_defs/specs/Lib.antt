pub mod Definition
pub mod Parts
pub mod Descriptions
pub mod Fault
pub mod Layout
pub mod Laws
pub mod Shipped
pub mod Examples
