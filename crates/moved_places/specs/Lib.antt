pub mod Blocks
pub mod Intervals
pub mod Kept
pub mod Moved
