pub mod Answers
pub mod Kept
pub mod Linked
pub mod Ready
pub mod Shaping
pub mod Values
