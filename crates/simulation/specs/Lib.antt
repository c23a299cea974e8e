pub mod Placement
pub mod Meant
pub mod Held
pub mod Placed
pub mod Follows
