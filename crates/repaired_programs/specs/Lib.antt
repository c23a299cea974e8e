pub mod Intervals
pub mod Named
pub mod Pieces
pub mod Programs
pub mod Spots
pub mod Symbols
pub mod Values
