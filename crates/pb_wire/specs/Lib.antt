pub mod Ahead
pub mod Varint
pub mod Records
pub mod Faults
pub mod Reading
pub mod Scanning
