pub mod Later
pub mod Functions
