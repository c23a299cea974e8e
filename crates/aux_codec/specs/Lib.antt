pub mod Faults
pub mod Order
pub mod Places
pub mod Reading
pub mod Spelling
pub mod Value
