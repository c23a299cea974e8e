mod Examples
pub mod Fields
pub mod Masks
pub mod Numbers
pub mod Pieces
pub mod Tables
pub mod Read
pub mod Labelled
pub mod Wide
pub mod Instructions
