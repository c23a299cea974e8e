pub mod Injective
pub mod Linking
