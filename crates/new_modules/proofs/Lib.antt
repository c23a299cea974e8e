pub mod Apart
pub mod Lists
pub mod OneModule
pub mod Shares
