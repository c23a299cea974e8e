pub mod Repairing
