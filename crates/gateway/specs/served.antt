-- The image that clients read.
pub mod Points
pub mod ServedImage
