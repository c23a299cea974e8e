pub mod Run
pub mod Standing
pub mod Opened
pub mod Machine
pub mod Next
