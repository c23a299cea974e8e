pub mod Expressions
pub mod Instructions
pub mod Labels
pub mod Lines
pub mod Texts
