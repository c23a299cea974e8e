pub mod Counted
mod Examples
pub mod Hexed
pub mod Kept
pub mod Parts
pub mod Placed
pub mod Sectioned
pub mod Tiled
pub mod Valued
