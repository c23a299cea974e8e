pub mod Places
pub mod Loop
pub mod RuleTests
pub mod Segments
pub mod Images
