pub mod Quiet
pub mod Going
pub mod Memory
pub mod Parts
pub mod Access
pub mod Calls
pub mod Rows
pub mod Each
