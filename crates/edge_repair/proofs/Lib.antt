pub mod Still
pub mod Unpatched
mod Worked
