pub mod Chains
pub mod Outcomes
pub mod Binding
pub mod LineWords
pub mod LayoutTexts
pub mod Programs
pub mod Printed
