pub mod Apart
pub mod Cutting
pub mod Labels
pub mod Lasts
pub mod Lists
