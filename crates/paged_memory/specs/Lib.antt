pub mod Mapping
pub mod Mapped
