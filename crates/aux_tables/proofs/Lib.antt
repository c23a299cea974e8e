pub mod Finding
pub mod OwnKeys
pub mod PlaceLists
pub mod Taken
