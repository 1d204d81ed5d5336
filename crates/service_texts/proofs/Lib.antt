pub mod Placing
pub mod KeptProgram
pub mod KeptVariables
pub mod StateLines
pub mod Named
pub mod Spelled
pub mod Read
pub mod Registers
