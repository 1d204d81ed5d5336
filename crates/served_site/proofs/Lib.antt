pub mod Meant
pub mod Going
mod Served
mod ReadsAlone
