pub mod Roles
pub mod Table
pub mod Numbers
pub mod Words
pub mod Picked
