mod Examples
pub mod Keys
pub mod Lookups
pub mod Steps
pub mod Aimed
pub mod Every
pub mod Structure
pub mod Bodies
pub mod Spots
pub mod Grown
pub mod Firsts
pub mod Fits
pub mod Outcomes
