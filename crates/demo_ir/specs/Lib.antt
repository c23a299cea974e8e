pub mod Identifiers
pub mod Code
pub mod Demo
