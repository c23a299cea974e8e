pub mod Bits
pub mod Names
pub mod Number
pub mod Spelling
