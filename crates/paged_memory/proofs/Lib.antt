pub mod Added
pub mod Images
pub mod Loads
pub mod Memories
pub mod Places
pub mod Spans
pub mod Stretches
