pub mod Spots
pub mod Kept
pub mod Building
