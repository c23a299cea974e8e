pub mod Typed
pub mod Ordered
pub mod Schema
pub mod Values
pub mod Views
pub mod Nodes
pub mod References
pub mod Linked
