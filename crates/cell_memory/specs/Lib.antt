pub mod Shown
pub mod Memory
pub mod Wholes
pub mod Blocks
