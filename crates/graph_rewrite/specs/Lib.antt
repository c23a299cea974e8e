pub mod Moved
pub mod Applied
