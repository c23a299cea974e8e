pub mod Faults
pub mod Gives
pub mod Kind
pub mod Names
pub mod Reading
pub mod Shape
