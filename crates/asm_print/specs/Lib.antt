pub mod Names
pub mod Items
pub mod Marking
pub mod Printed
