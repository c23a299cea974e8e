pub mod Answers
pub mod Cutting
pub mod Faults
pub mod Functions
pub mod Identifiers
pub mod Named
pub mod NodeIds
