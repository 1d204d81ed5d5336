pub mod Entries
mod Factors
mod Outs
pub mod Owns
pub mod ToldKeys
mod ToldModels
pub mod ToldSite
mod ToldTags
pub mod Refused
