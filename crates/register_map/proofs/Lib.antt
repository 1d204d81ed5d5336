pub mod ReadsLemmas
pub mod ChainLemmas
pub mod Carried
pub mod Once
pub mod LaidOut
pub mod Readable
