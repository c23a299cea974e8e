pub mod Identifier
pub mod Number
pub mod Words
