mod Examples
pub mod Lists
pub mod Counts
pub mod Orders
pub mod Tiles
pub mod Rooms
pub mod Listed
pub mod Holders
pub mod There
pub mod Forms
pub mod Stands
pub mod Entered
pub mod Sound
pub mod Identifiers
pub mod Found
pub mod Functions
pub mod Sections
pub mod Fresh
pub mod Puts
pub mod Aims
pub mod Parts
pub mod Known
pub mod Made
pub mod Unpatched
pub mod WorkedImages
mod WorkedRuns
