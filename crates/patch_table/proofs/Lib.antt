pub mod Texts
pub mod Sayings
pub mod Tables
pub mod Typed
pub mod Results
