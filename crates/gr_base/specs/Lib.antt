pub mod Desk
pub mod Held
pub mod HonestDesk
pub mod MemDesk
pub mod Store
pub mod Whole
