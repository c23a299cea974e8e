pub mod Answers
pub mod Directives
pub mod Lines
pub mod Names
pub mod Operands
