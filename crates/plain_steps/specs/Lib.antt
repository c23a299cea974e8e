pub mod Stuck
pub mod Plain
