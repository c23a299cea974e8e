pub mod Leading
pub mod Moved
pub mod Powers
pub mod Widths
