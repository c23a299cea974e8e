pub mod Cells
pub mod Order
pub mod Rooms
pub mod Finding
pub mod Commons
