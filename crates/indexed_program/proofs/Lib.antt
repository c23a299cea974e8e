pub mod Lists
pub mod Words
pub mod Apart
pub mod Reaching
pub mod Keeping
pub mod Steps
pub mod Found
