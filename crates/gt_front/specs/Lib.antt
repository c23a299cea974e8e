pub mod Answer
pub mod Note
pub mod Causes
pub mod Reads
pub mod Served
