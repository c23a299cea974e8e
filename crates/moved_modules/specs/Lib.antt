pub mod Moved
pub mod Targets
pub mod Near
