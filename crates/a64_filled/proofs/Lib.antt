mod Replaced
mod Known
mod Kept
mod Each
mod Fitted
mod Naming
mod Taking
