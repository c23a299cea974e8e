pub mod Jumps
pub mod Ends
pub mod Edges
pub mod Sets
pub mod Repaired
