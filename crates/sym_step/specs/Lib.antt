pub mod Runner
pub mod Order
pub mod Room
pub mod Found
pub mod Common
