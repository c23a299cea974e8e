pub mod Identifiers
pub mod Numerals
pub mod Quoting
pub mod Splitting
