pub mod Faults
pub mod Modules
pub mod Outcomes
pub mod Places
pub mod Valid
