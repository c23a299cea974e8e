pub mod Parents
pub mod Exprs
