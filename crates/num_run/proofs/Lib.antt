pub mod Accesses
pub mod Ends
pub mod Reached
pub mod Sums
pub mod Decoding
