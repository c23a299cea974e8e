pub mod Labels
pub mod Reading
pub mod Slots
pub mod Words
