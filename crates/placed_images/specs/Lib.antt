pub mod Typed
pub mod Simulates
