pub mod Ranges
pub mod Ascends
