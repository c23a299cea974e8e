pub mod Blocks
pub mod Bringing
pub mod Cutting
pub mod Inserting
pub mod Knowing
pub mod Moving
pub mod Placed
pub mod Whole
