pub mod Numbers
pub mod Usages
pub mod Requireds
