pub mod Built
pub mod Keeping
pub mod Naming
pub mod Passing
pub mod Seeing
pub mod Whole
