pub mod Kept
pub mod Near
pub mod Runs
pub mod Named
