pub mod Encoding
pub mod Keyword
pub mod Laws
pub mod Name
pub mod Point
pub mod Reading
pub mod Rescaling
pub mod Value
