pub mod Telling
pub mod Reading
pub mod FirstBad
pub mod Unreads
pub mod Endings
pub mod Serving
